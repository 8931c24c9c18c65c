-- A call that begins, and one that ends, leave its participant linked.
use Rattle.std.proofs.Common.{◌≡◌, ℕ, ◌+◌, ◌<◌, ◌==◌, ◌||◌, nat_le, Bool, true, false, List, [], ◌∷◌, ◌++◌, length}
use Rattle.std.proofs.Common.{Option, Some, None, refl, ap, ◌∙◌, arith, if◌then◌else◌}
use Rattle.std.proofs.lemmas.Bool.Decides.{nat_tests}
use Rattle.std.proofs.lemmas.List.{length-append}
use Rattle.epoch_cells.specs.declared.fault.Fault.{Fault}
use Rattle.epoch_machine.specs.declared.machine.Action.{Action}
use Rattle.epoch_machine.specs.declared.machine.Action.TheVariants.{Pin as PinAction, Unpin as UnpinAction}
use Rattle.epoch_machine.specs.declared.machine.Action.TheVariants.{Repin as RepinAction, Defer as DeferAction}
use Rattle.epoch_machine.specs.declared.machine.Action.TheVariants.{Flush as FlushAction, Release as ReleaseAction}
use Rattle.epoch_machine.specs.declared.machine.Sizes.{Sizes}
use Rattle.epoch_machine.specs.Machine.{Machine, guards_after}
use Rattle.epoch_laws.specs.declared.step.Call.{Call}
use Rattle.epoch_laws.specs.declared.step.Call.TheVariants.{Pin, Unpin, Repin, Pause, Resume, Defer, Flush, Release}
use Rattle.epoch_laws.specs.declared.step.Call.TheVariants.{DeferDestroy, Access as AccessCall}
use Rattle.epoch_laws.specs.declared.step.Deferral.{Deferral}
use Rattle.epoch_laws.specs.declared.step.Progress.TheVariants.{Idle, Accesses, Ends}
use Rattle.epoch_laws.specs.Run.{WorldSeat, is_out, without, lowest, call_refusal, drives, begun_seat, with_guards}
use Rattle.epoch_laws.specs.Run.{ended_seat}
use Rattle.epoch_laws.proofs.SeatLemmas.{guard_given}
use Rattle.epoch_laws.proofs.SeatLinks.{action_of, BeganUnder, IsDriven, IsLinked, follows_at, progress_linked}
use Rattle.epoch_machine.proofs.UnderWay.{first_on}
use Rattle.epoch_laws.specs.declared.heap.access.Access.{Access}
use Rattle.epoch_laws.specs.declared.heap.access.AccessAnswer.TheVariants.{Absent}
use Rattle.epoch_laws.specs.declared.step.Reply.TheVariants.{Done}
use Rattle.epoch_laws.specs.Heap.{Heap, null, has_steps}

-- NUMBERS OF GUARDS

rest_is_out : (b c : Bool) → (b || c) ≡ true → b ≡ false → c ≡ true
rest_is_out true c h other = absurd (cc)
rest_is_out false c h other = h

-- one guard less, where it is out
pub length_without : (g : ℕ) (guards : List ℕ) → is_out g guards ≡ true
    → length guards ≡ length (without g guards) + 1
length_without g [] h = absurd (cc)
length_without g (first ∷ guards) h = at_first (first == g) refl (length_without g guards)
  where
    at_first : (b : Bool) → (first == g) ≡ b
        → (is_out g guards ≡ true → length guards ≡ length (without g guards) + 1)
        → length (first ∷ guards) ≡ length (if b then guards else first ∷ without g guards) + 1
    at_first true same rest = omega arith
    at_first false other rest = omega (arith, rest (rest_is_out (first == g) (is_out g guards) h other))

-- where the number of guards is tested to be 0, it is 0
pub none_out : (n : ℕ) → (n == 0) ≡ true → n ≡ 0
none_out n h = grind (arith, nat_tests)

-- where a pin isn't refused for its guards, there are fewer than 64
pub has_room : (n : ℕ) (f : Fault) (b : Bool) → nat_le 64 n ≡ b → (if b then Some f else None) ≡ None → n < 64
has_room n f true full h = absurd (cc)
has_room n f false room h = grind (arith, nat_tests)

module _ (sizes : Sizes) (seat : WorldSeat) (h : IsLinked sizes seat) where
  abbrev m : Machine Deferral
  m = seat.machine

  -- BEGINNING

  drives_linked : (a : Action) (c : Call) → a ≡ action_of c → BeganUnder c seat.guards
      → IsLinked sizes (drives a c seat)
  drives_linked a c action under = record {
    sized = h.sized;
    counted = h.counted;
    follows = record { under_way = first_on a m; action = action; under = under };
  }

  -- a call under an unprotected guard drives nothing
  ends_at_once : seat.progress ≡ Idle → IsLinked sizes (begun_seat (Repin None) seat)
  ends_at_once idle = progress_linked sizes seat h _ (follows_at sizes seat h Idle idle, (_, refl))

  -- a call on cells and pointers drives nothing
  accesses : (a : Access) (b : Bool) → seat.progress ≡ Idle
      → IsLinked sizes (record seat { progress = if b then Accesses a 0 null else Ends (Done Absent) })
  accesses a true idle = progress_linked sizes seat h _ (follows_at sizes seat h Idle idle)
  accesses a false idle = progress_linked sizes seat h _ (follows_at sizes seat h Idle idle, (_, refl))

  -- a call that isn't refused, and begins at an idle seat, leaves its participant linked
  pub begun_linked : (c : Call) (tickets : ℕ) (heap : Heap) → seat.progress ≡ Idle
      → call_refusal c seat tickets heap ≡ None
      → IsLinked sizes (begun_seat c seat)
  begun_linked Pin n heap idle e = drives_linked PinAction Pin refl (has_room _ _ _ refl e)
  begun_linked (Unpin None) n heap idle e = absurd (cc)
  begun_linked (Unpin (Some g)) n heap idle e = drives_linked UnpinAction (Unpin (Some g)) refl (guard_given _ _ _ e)
  begun_linked (Repin None) n heap idle e = ends_at_once idle
  begun_linked (Repin (Some g)) n heap idle e = drives_linked RepinAction (Repin (Some g)) refl (guard_given _ _ _ e)
  begun_linked (Pause None) n heap idle e = ends_at_once idle
  begun_linked (Pause (Some g)) n heap idle e = drives_linked UnpinAction (Pause (Some g)) refl (guard_given _ _ _ e)
  begun_linked (Resume None) n heap idle e = ends_at_once idle
  begun_linked (Resume (Some g)) n heap idle e = drives_linked PinAction (Resume (Some g)) refl tt
  begun_linked (Defer None) n heap idle e = progress_linked sizes seat h _ (follows_at sizes seat h Idle idle)
  begun_linked (Defer (Some g)) n heap idle e = drives_linked DeferAction (Defer (Some g)) refl (guard_given _ _ _ e)
  begun_linked (Flush None) n heap idle e = ends_at_once idle
  begun_linked (Flush (Some g)) n heap idle e = drives_linked FlushAction (Flush (Some g)) refl (guard_given _ _ _ e)
  begun_linked Release n heap idle e = drives_linked ReleaseAction Release refl (none_out _ (guard_given _ _ _ e))
  begun_linked (DeferDestroy None ptr) n heap idle e =
      progress_linked sizes seat h _ (follows_at sizes seat h Idle idle)
  begun_linked (DeferDestroy (Some g) ptr) n heap idle e =
      drives_linked DeferAction (DeferDestroy (Some g) ptr) refl (guard_given _ _ _ e)
  begun_linked (AccessCall a) n heap idle e = accesses a (has_steps a) idle

  -- ENDING

  counts_linked : (guards : List ℕ) (paused : Option ℕ) → guards_after m.action m.guards ≡ length guards
      → IsLinked sizes (with_guards seat guards paused)
  counts_linked guards paused counted = record { sized = h.sized; counted = counted; follows = refl }

  one_more : (g : ℕ) → m.action ≡ PinAction → guards_after m.action m.guards ≡ length (seat.guards ++ g ∷ [])
  one_more g e = ap (λ (a : Action). guards_after a m.guards) e
      ∙ omega (arith, h.counted, length-append seat.guards (g ∷ []))

  one_less : (g : ℕ) → m.action ≡ UnpinAction → is_out g seat.guards ≡ true
      → guards_after m.action m.guards ≡ length (without g seat.guards)
  one_less g e out = ap (λ (a : Action). guards_after a m.guards) e
      ∙ omega (arith, h.counted, length_without g seat.guards out)

  as_many : (a : Action) → m.action ≡ a → guards_after a m.guards ≡ m.guards
      → guards_after m.action m.guards ≡ length seat.guards
  as_many a e same = ap (λ (b : Action). guards_after b m.guards) e ∙ same ∙ h.counted

  -- a driven call that ends leaves its participant linked
  pub ended_linked : (c : Call) → IsDriven c m seat.guards → IsLinked sizes (ended_seat c seat)
  ended_linked Pin d = counts_linked _ _ (one_more (lowest seat.guards) d.action)
  ended_linked (Unpin None) d = absurd d.under
  ended_linked (Unpin (Some g)) d = counts_linked _ _ (one_less g d.action d.under)
  ended_linked (Repin g) d = counts_linked _ _ (as_many RepinAction d.action refl)
  ended_linked (Pause None) d = absurd d.under
  ended_linked (Pause (Some g)) d = counts_linked _ _ (one_less g d.action d.under)
  ended_linked (Resume None) d = absurd d.under
  ended_linked (Resume (Some g)) d = counts_linked _ _ (one_more g d.action)
  ended_linked (Defer g) d = counts_linked _ _ (as_many DeferAction d.action refl)
  ended_linked (Flush g) d = counts_linked _ _ (as_many FlushAction d.action refl)
  ended_linked Release d = counts_linked _ _ (as_many ReleaseAction d.action refl)
  ended_linked (DeferDestroy g ptr) d = counts_linked _ _ (as_many DeferAction d.action refl)
  ended_linked (AccessCall a) d = absurd d.under
