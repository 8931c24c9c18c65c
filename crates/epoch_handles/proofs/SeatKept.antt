-- A step of the participants' seat that keeps its position leaves the participant seated.
use Rattle.std.proofs.Common.{◌≡◌, ◌∙◌, refl, ap}
use Rattle.atomic_table.specs.declared.shared.Seat.{Seat}
use Rattle.epoch_tables.specs.Table.{IsSameSeat}
use Rattle.epoch_tables.specs.declared.table.view.ParticipantView.{ParticipantView}
use Rattle.epoch_handles.specs.declared.local.Local.{Local}
use Rattle.epoch_handles.specs.Handles.{IsSeated, Steps}

-- a step of the seat on the table of words changes nothing else of the handle
pub seat_steps : {T W : Type 0} (h : Local T W) (seat : Seat _ ParticipantView) (view : ParticipantView)
    → IsSeated h
    → IsSameSeat h.seat seat
    → seat.me.0 ≡ view
    → view.position ≡ h.seat.me.0.position
    → Steps h (record h { seat = seat }) view
seat_steps h seat view seated kept knows position = record {
  seated = record {
    words_of = (kept.0 ∙ seated.words_of.0, kept.2 ∙ seated.words_of.1);
    places_of = seated.places_of;
    own = (ap (λ (z : ParticipantView). z.position) knows ∙ position ∙ seated.own.0, seated.own.1);
    sizes = seated.sizes;
    positions = seated.positions;
  };
  knows = knows;
  claimer = refl;
  machine = refl;
  position = refl;
  collector = refl;
}
