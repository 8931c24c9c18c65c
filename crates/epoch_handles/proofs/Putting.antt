-- A put, step by step: what its loop performs is what the machine asks.
use Rattle.std.proofs.Common.{◌≡◌, ◌≢◌, ◌∙◌, ℕ, ◌+◌, ◌≤◌, ◌⊎◌, ◌==◌, if◌then◌else◌, Bool, true, false, List, [], ◌∷◌}
use Rattle.std.proofs.Common.{refl, sym, ap, subst, inl, inr}
use Rattle.std.proofs.lemmas.Bool.{false≢true}
use Rattle.std.proofs.lemmas.Bool.Decides.{eqb_tells}
use Rattle.epoch_tables.specs.TableSteps.{after_epoch}
use Rattle.epoch_tables.specs.SharedPlaces.{PlaceMe, IsSamePlaceSeat}
use Rattle.epoch_tables.specs.SharedSteps.{RestsAt, PutsAt, PutMoves}
use Rattle.epoch_bags.specs.CursorSteps.{PutPasses}
use Rattle.epoch_bags.specs.declared.queue.places.PutCursor.{PutCursor}
use Rattle.epoch_bags.specs.declared.queue.places.PutCursor.TheVariants.{Look as PutLook, Claim as PutClaim, Fill}
use Rattle.epoch_bags.specs.declared.queue.places.TakeCursor.TheVariants.{Look as TakeLook}
use Rattle.epoch_bags.specs.declared.queue.PutStep.{PutStep}
use Rattle.epoch_bags.specs.declared.queue.PutStep.TheVariants.{Again, Done, Full}
use Rattle.epoch_bags.specs.declared.job.Job.{Job}
use Rattle.epoch_tables.specs.declared.table.view.ParticipantView.{ParticipantView}
use Rattle.epoch_machine.specs.declared.machine.Answer.TheVariants.{Epoch}
use Rattle.epoch_machine.specs.declared.machine.Ask.TheVariants.{LoadEpoch, PutBag}
use Rattle.epoch_machine.specs.declared.machine.Stage.{Stage}
use Rattle.epoch_machine.specs.declared.machine.Stage.TheVariants.{LoadSeal, Put}
use Rattle.epoch_handles.specs.declared.local.Local.{Local}
use Rattle.epoch_machine.specs.Machine.{Machine, ask_at, with_stage, after_put, put_heard}
use Rattle.epoch_machine.specs.Asks.{Heard, PutStepped}
use Rattle.epoch_handles.specs.Drives.{Cursors, NoJob, Performed, Reaches, situated, at_start}
use Rattle.epoch_handles.specs.Handles.{IsSeated, IsSame, IsPinned, KeepsPin, Steps, Puts, IsLeftWhole, sight_of}
use Rattle.epoch_handles.specs.Handles.{situation_of}
use Rattle.epoch_handles.proofs.Driving.{one_performed, reaches_on, reached}
use Rattle.epoch_handles.proofs.StraightCalls.{sight_after, seated_with, still_read}

-- where a put stands; no collection has begun
abbrev pub putting : PutCursor → Cursors
putting cursor = record { put = cursor; take = TakeLook 0 }

-- the put of a handle's bag under this seal has come to this cursor, and goes on
pub record HasPut {T W : Type 0} (h : Local T W) (seal : ℕ) (cursor : PutCursor) (n : Local T W) : Type 0 where
  pub seated : IsSeated n
  pub same : IsSame h n
  pub pin : KeepsPin h n
  pub at : PutsAt n.collector.now.places.capacity cursor n.claimer.me
  pub machine : n.machine ≡ with_stage h.machine (Put seal)
  pub reaches : Reaches NoJob h.collector.now.places.capacity h.machine (sight_of h) (situation_of n (putting cursor))

-- a step of a put leaves the machine its sizes
sizes_kept : {J : Type 0} (m : Machine J) (step : PutStep) → (put_heard m step).sizes ≡ m.sizes
sizes_kept m Again = refl
sizes_kept m Done = refl
sizes_kept m Full = refl

-- WHAT IT LEAVES

-- a step that passes a place has not put the bag
not_passed : (b : Bool) → ¬ (Done ≡ (if b then Full else Again))
not_passed true is = absurd (cc is)
not_passed false is = absurd (cc is)

-- a step that finds a word has not put the bag
not_done : (places place word : ℕ) (next : PutCursor)
    → (word ≡ 0 → Done ≡ Again) → ¬ (word ≢ 0 → PutPasses places place Done next)
not_done places place word next free occupied = elim (eqb_tells word 0) [
  | inl zero ↦ absurd (cc (free zero.1))
  | inr other ↦ not_passed (place + 1 == places) (occupied other.1).1
]

module _ {J : Type 0} where
  -- the step that is done left the bag in its place, just as it is
  left_whole : (places seal : ℕ) (cursor next : PutCursor) (jobs : List J) (before after : PlaceMe J)
      → PutMoves places cursor before (record { seal = seal; jobs = jobs }) Done next after
      → IsLeftWhole jobs after.0
  left_whole places seal (PutLook place) next jobs before after (word, is, free, occupied) =
      absurd (not_done places place word next (λ at. (free at).0) occupied)
  left_whole places seal (PutClaim place) next jobs before after (word, free, occupied) =
      absurd (not_done places place word next (λ at. (free at).1) (λ differs. (occupied differs).1))
  left_whole places seal (Fill place) next jobs before after (done, is) =
      (seal, before.0.left, ap (λ (z : PlaceMe J). z.0.left) is)

  -- where the machine says that the put found a place
  put_whole : (places seal : ℕ) (cursor next : PutCursor) (step : PutStep) (n m : Machine J) (before after : PlaceMe J)
      → step ≢ Again
      → m ≡ put_heard n step
      → PutMoves places cursor before (record { seal = seal; jobs = n.held }) step next after
      → m.full ≡ false
      → IsLeftWhole n.held after.0
  put_whole places seal cursor next Again n m before after over is moves room = absurd (over refl)
  put_whole places seal cursor next Done n m before after over is moves room =
      left_whole places seal cursor next n.held before after moves
  put_whole places seal cursor next Full n m before after over is moves room =
      absurd (false≢true (sym room ∙ ap (λ (z : Machine J). z.full) is))

-- HOW IT BEGINS

module _ {T W : Type 0} where
  -- the load of the seal is performed, wherever the cursors were
  seal_performed : (h n : Local T W) (seal : ℕ)
      → h.machine.stage ≡ LoadSeal
      → h.seat.me.0.seen ≤ seal
      → Steps h n (after_epoch h.seat.me.0 seal)
      → Reaches NoJob h.collector.now.places.capacity h.machine (sight_of h)
      (situated (with_stage h.machine (Put seal)) (sight_of n) at_start)
  seal_performed h n seal begins rises steps = λ c. (
    record { ask = LoadEpoch; reply = Heard (Epoch seal) } ∷ [],
    subst (λ (s : Stage). Performed h.collector.now.places.capacity
        (situated (record h.machine { stage = s }) (sight_of h) c)
        (record { ask = LoadEpoch; reply = Heard (Epoch seal) }
        ∷ []) (situated (with_stage h.machine (Put seal)) (sight_of n) at_start))
        (sym begins)
        (one_performed h.collector.now.places.capacity _ _ _
        (record { asked = refl; is_reply = tt; performs = (rises, sight_after h n _ steps, refl); machine = refl })),
    (tt, tt),
  )

  -- a put begins with the load of its seal, and looks at the first place first
  pub put_begins : (h n : Local T W) (seal : ℕ) (cursor : PutCursor) (m : Machine (Job W))
      → IsPinned h.seat.me.0
      → h.machine.stage ≡ LoadSeal
      → h.seat.me.0.seen ≤ seal
      → Steps h n (after_epoch h.seat.me.0 seal)
      → m ≡ with_stage n.machine (Put seal)
      → cursor ≡ PutLook 0
      → PutsAt n.collector.now.places.capacity cursor n.claimer.me
      → HasPut h seal cursor (record n { machine = m })
  put_begins h n seal cursor m pinned begins rises steps is first at =
      let published = pinned.published in
      let goes : m ≡ with_stage h.machine (Put seal) = is
      ∙ ap (λ (z : Machine (Job W)). with_stage z (Put seal)) steps.machine in
      record {
        seated = seated_with n m (ap (λ (z : Machine (Job W)). z.sizes) is) steps.seated;
        same = record { position = steps.position; collector = steps.collector };
        pin = record {
          published = ap (λ (z : ParticipantView). z.published) steps.knows;
          read = still_read h n seal pinned.read.0 published.0 published.1 pinned.read.1 steps ∙ sym pinned.read.1;
        };
        at = at;
        machine = goes;
        reaches = subst (λ (z : Machine (Job W)). Reaches NoJob h.collector.now.places.capacity h.machine (sight_of h)
            (situated z (sight_of n) (putting cursor))) (sym goes)
            (subst (λ (z : PutCursor). Reaches NoJob h.collector.now.places.capacity h.machine (sight_of h)
            (situated (with_stage h.machine (Put seal)) (sight_of n) (putting z))) (sym first)
            (seal_performed h n seal begins rises steps));
      }

  -- HOW IT GOES ON

  -- what one step of the put performs
  put_performed : (h n : Local T W) (seal : ℕ) (cursor next : PutCursor) (step : PutStep)
      (m : Machine (Job W)) (me : PlaceMe (Job W))
      → HasPut h seal cursor n
      → m ≡ put_heard n.machine step
      → PutMoves n.collector.now.places.capacity cursor n.claimer.me
      (record { seal = seal; jobs = n.machine.held }) step next me
      → Reaches NoJob h.collector.now.places.capacity h.machine (sight_of h)
      (situated m (record { words = n.seat.me.0; places = me }) (putting next))
  put_performed h n seal cursor next step m me put after moves =
      reaches_on NoJob h.collector.now.places.capacity h.machine (sight_of h) _ _
      put.reaches (record { ask = PutBag seal; reply = PutStepped step } ∷ [])
      (one_performed h.collector.now.places.capacity (situation_of n (putting cursor))
      (situated m (record { words = n.seat.me.0; places = me }) (putting next)) _ (record {
        asked = ap (λ (z : Machine (Job W)). ask_at z.stage) put.machine;
        is_reply = tt;
        performs = (
          refl,
          refl,
          subst (λ z. PutMoves z.now.places.capacity cursor n.claimer.me
              (record { seal = seal; jobs = n.machine.held }) step next me) put.same.collector moves,
        );
        machine = after;
      })) (tt, tt)

  -- the same participant after a step of its seat at the places
  seated_at : (n : Local T W) (m : Machine (Job W)) (claimer : _)
      → m.sizes ≡ n.machine.sizes
      → IsSamePlaceSeat n.claimer claimer
      → IsSeated n
      → IsSeated (record n { claimer = claimer; machine = m })
  seated_at n m claimer sizes kept seated = record {
    words_of = seated.words_of;
    places_of = kept.0 ∙ seated.places_of;
    own = seated.own;
    sizes = sizes ∙ seated.sizes;
    positions = seated.positions;
  }

  -- a put that has not found a place yet goes on at the next one
  pub put_again : (h n : Local T W) (seal : ℕ) (cursor next : PutCursor) (m : Machine (Job W)) (claimer : _)
      → HasPut h seal cursor n
      → m ≡ put_heard n.machine Again
      → IsSamePlaceSeat n.claimer claimer
      → PutsAt n.collector.now.places.capacity next claimer.me
      → PutMoves n.collector.now.places.capacity cursor n.claimer.me
      (record { seal = seal; jobs = n.machine.held }) Again next claimer.me
      → HasPut h seal next (record n { claimer = claimer; machine = m })
  put_again h n seal cursor next m claimer put after kept at moves = record {
    seated = seated_at n m claimer (ap (λ (z : Machine (Job W)). z.sizes) after) kept put.seated;
    same = record { position = put.same.position; collector = put.same.collector };
    pin = record { published = put.pin.published; read = put.pin.read };
    at = at;
    machine = after ∙ put.machine;
    reaches = put_performed h n seal cursor next Again m claimer.me put after moves;
  }

  -- HOW IT ENDS

  -- the bag is in a place, or is still held where no place was free
  put_over : (h : Local T W) (seal : ℕ) (step : PutStep) (m : Machine (Job W))
      → step ≢ Again
      → m ≡ put_heard (with_stage h.machine (Put seal)) step
      → (m ≡ record h.machine { stage = after_put h.machine.action false; full = false; held = [] })
      ⊎ (m ≡ record h.machine { stage = after_put h.machine.action true; full = true })
  put_over h seal Again m over after = absurd (over refl)
  put_over h seal Done m over after = inl after
  put_over h seal Full m over after = inr after

  -- a put that has found a place, or has seen each of them occupied, is over
  pub put_ends : (h n : Local T W) (seal : ℕ) (cursor next : PutCursor) (step : PutStep)
      (m : Machine (Job W)) (claimer : _)
      → HasPut h seal cursor n
      → step ≢ Again
      → m ≡ put_heard n.machine step
      → IsSamePlaceSeat n.claimer claimer
      → RestsAt claimer.me
      → PutMoves n.collector.now.places.capacity cursor n.claimer.me
      (record { seal = seal; jobs = n.machine.held }) step next claimer.me
      → Puts h (record n { claimer = claimer; machine = m })
  put_ends h n seal cursor next step m claimer put over after kept rests moves = record {
    seated =
        seated_at n m claimer (ap (λ (z : Machine (Job W)). z.sizes) after ∙ sizes_kept n.machine step) kept put.seated;
    rests = rests;
    same = record { position = put.same.position; collector = put.same.collector };
    pin = record { published = put.pin.published; read = put.pin.read };
    whole = λ room. subst (λ (z : Machine (Job W)). IsLeftWhole z.held claimer.me.0) put.machine
        (put_whole n.collector.now.places.capacity seal cursor next step n.machine m n.claimer.me
        claimer.me over after moves room);
    machine = put_over h seal step m over (after ∙ ap (λ (z : Machine (Job W)). put_heard z step) put.machine);
    drives = reached NoJob h.collector.now.places.capacity h.machine (sight_of h)
        (situated m (record { words = n.seat.me.0; places = claimer.me }) (putting next))
        (put_performed h n seal cursor next step m claimer.me put after moves);
  }
