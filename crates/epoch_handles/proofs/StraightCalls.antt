-- What the steps of a pin, an unpin and a repin are: the machine's asks, one after another.
use Rattle.std.proofs.Common.{◌≡◌, ◌≢◌, ◌∙◌, ℕ, ◌<◌, ◌≤◌, ◌==◌, if◌then◌else◌, Bool, [], ◌∷◌, refl, sym, ap, subst}
use Rattle.std.proofs.Common.{arith, ne_eqb, Option, Some, None}
use Rattle.std.proofs.lemmas.Bool.{eq-eqb}
use Rattle.epoch_tables.specs.TableSteps.{after_epoch, after_own, first_after}
use Rattle.epoch_tables.specs.SharedSteps.{RestsAt}
use Rattle.epoch_bags.specs.declared.job.Job.{Job}
use Rattle.epoch_tables.specs.declared.table.view.ParticipantView.{ParticipantView}
use Rattle.epoch_machine.specs.declared.machine.Action.TheVariants.{Pin, Unpin, Repin}
use Rattle.epoch_machine.specs.declared.machine.Answer.TheVariants.{Epoch, Stored}
use Rattle.epoch_machine.specs.declared.machine.Ask.TheVariants.{LoadEpoch, StorePinned, StoreRepinned, StoreUnpinned}
use Rattle.epoch_machine.specs.declared.machine.Stage.{Stage}
use Rattle.epoch_machine.specs.declared.machine.Stage.TheVariants.{Idle, LoadPin, LoadRepin, StoreRepin, End}
use Rattle.epoch_machine.specs.declared.machine.Stage.TheVariants.{StoreUnpinned as StageUnpinned}
use Rattle.epoch_handles.specs.declared.local.Local.{Local}
use Rattle.epoch_machine.specs.Machine.{Machine, begun, heard}
use Rattle.epoch_machine.specs.Asks.{Heard}
use Rattle.epoch_handles.specs.Drives.{Sight, NoJob, Drives, situated, at_start, with_words}
use Rattle.epoch_handles.proofs.Driving.{one_performed, drives_on}
use Rattle.epoch_handles.specs.Handles.{IsSeated, IsReady, IsPinned, Steps, PinSteps, sight_of}

-- HOW THE ACTIONS BEGIN

module _ {J : Type 0} where
  -- a pin with no guard out begins with a load of the epoch
  pub pin_begins : (m : Machine J) → m.guards ≡ 0 → (begun Pin m).stage ≡ LoadPin
  pin_begins m none = ap (λ (n : ℕ). if n == 0 then LoadPin else End) none

  -- a further pin asks for nothing
  pub pin_asks_nothing : (m : Machine J) → m.guards ≢ 0 → (begun Pin m).stage ≡ End
  pin_asks_nothing m some = ap (λ (b : Bool). if b then LoadPin else End) (ne_eqb m.guards 0 some)

  -- the unpin of the only guard begins with the store of its word
  pub unpin_begins : (m : Machine J) → m.guards ≡ 1 → (begun Unpin m).stage ≡ StageUnpinned
  unpin_begins m one = ap (λ (n : ℕ). if n == 1 then StageUnpinned else End) one

  -- and that of one of several guards asks for nothing
  pub unpin_asks_nothing : (m : Machine J) → m.guards ≢ 1 → (begun Unpin m).stage ≡ End
  unpin_asks_nothing m more = ap (λ (b : Bool). if b then StageUnpinned else End) (ne_eqb m.guards 1 more)

  -- a repin of the only guard begins with a load of the epoch
  pub repin_begins : (m : Machine J) → m.guards ≡ 1 → (begun Repin m).stage ≡ LoadRepin
  repin_begins m one = ap (λ (n : ℕ). if n == 1 then LoadRepin else End) one

  -- and one of several guards asks for nothing
  pub repin_asks_nothing : (m : Machine J) → m.guards ≢ 1 → (begun Repin m).stage ≡ End
  repin_asks_nothing m other = ap (λ (b : Bool). if b then LoadRepin else End) (ne_eqb m.guards 1 other)

  -- what a pin, an unpin and a repin leave of the machine
  pub pin_leaves : (m : Machine J) (e again : ℕ) → m.guards ≡ 0
      → let n : Machine J = heard (heard (heard (begun Pin m) (Epoch e)) Stored) (Epoch again) in
      (n.sizes ≡ m.sizes) × (n.guards ≡ m.guards) × (n.published ≡ e) × (n.action ≡ Pin)
  pin_leaves m e again none =
      subst (λ (s : Stage).
      let n : Machine J = heard (heard (heard (record (begun Pin m) { stage = s }) (Epoch e)) Stored) (Epoch again) in
      (n.sizes ≡ m.sizes) × (n.guards ≡ m.guards) × (n.published ≡ e) × (n.action ≡ Pin)) (sym (pin_begins m none))
      (refl, refl, refl, refl)

  -- after its store an unpin has only to end
  pub unpin_leaves : (m : Machine J) → m.guards ≡ 1
      → let n : Machine J = heard (begun Unpin m) Stored in
      (n.sizes ≡ m.sizes) × (n.stage ≡ End) × (n.guards ≡ m.guards) × (n.action ≡ Unpin)
  unpin_leaves m one =
      subst (λ (s : Stage). let n : Machine J = heard (record (begun Unpin m) { stage = s }) Stored in
      (n.sizes ≡ m.sizes) × (n.stage ≡ End) × (n.guards ≡ m.guards) × (n.action ≡ Unpin)) (sym (unpin_begins m one))
      (refl, refl, refl, refl)

  -- a repin that finds the epoch that is published has only to end
  pub repin_leaves : (m : Machine J) (e : ℕ) → m.guards ≡ 1 → m.published ≡ e
      → let n : Machine J = heard (begun Repin m) (Epoch e) in
      (n.sizes ≡ m.sizes) × (n.stage ≡ End) × (n.guards ≡ m.guards) × (n.published ≡ e) × (n.action ≡ Repin)
  repin_leaves m e one same =
      subst (λ (s : Stage). let n : Machine J = heard (record (begun Repin m) { stage = s }) (Epoch e) in
      (n.sizes ≡ m.sizes) × (n.stage ≡ End) × (n.guards ≡ m.guards) × (n.published ≡ e) × (n.action ≡ Repin))
      (sym (repin_begins m one))
      (refl, ap (λ (b : Bool). if b then End else StoreRepin e) (eq-eqb m.published e same), refl, same, refl)

  -- a repin of another epoch than the one published comes to its store
  repin_moves : (m : Machine J) (e : ℕ) → m.guards ≡ 1 → m.published ≢ e
      → heard (begun Repin m) (Epoch e) ≡ record (begun Repin m) { stage = StoreRepin e }
  repin_moves m e one moved =
      subst (λ (s : Stage). heard (record (begun Repin m) { stage = s })
      (Epoch e) ≡ record (begun Repin m) { stage = StoreRepin e }) (sym (repin_begins m one))
      (ap (λ (b : Bool). record (begun Repin m) { stage = if b then End else StoreRepin e })
      (ne_eqb m.published e moved))

  -- a repin that finds another epoch publishes that one, and has then only to end
  pub repin_moved_leaves : (m : Machine J) (e again : ℕ) → m.guards ≡ 1 → m.published ≢ e
      → let n : Machine J = heard (heard (heard (begun Repin m) (Epoch e)) Stored) (Epoch again) in
      (n.sizes ≡ m.sizes) × (n.stage ≡ End) × (n.guards ≡ m.guards) × (n.published ≡ e) × (n.action ≡ Repin)
  repin_moved_leaves m e again one moved =
      subst (λ (z : Machine J). let n : Machine J = heard (heard z Stored) (Epoch again) in
      (n.sizes ≡ m.sizes) × (n.stage ≡ End) × (n.guards ≡ m.guards) × (n.published ≡ e) × (n.action ≡ Repin))
      (sym (repin_moves m e one moved))
      (refl, refl, refl, refl, refl)

  -- WHAT IS PERFORMED

  -- the three steps of a pin are what its machine asks for
  pub pin_performed : (places : ℕ) (m : Machine J) (v : Sight J) (e again : ℕ)
      → m.stage ≡ LoadPin
      → v.words.seen ≤ e
      → e ≤ again
      → Drives NoJob places m v (heard (heard (heard m (Epoch e)) Stored) (Epoch again))
      (with_words v (after_epoch (after_own (after_epoch v.words e) (Some e)) again))
  pin_performed places m v e again at rises rises_again =
      subst (λ (s : Stage). let n : Machine J = record m { stage = s } in
      Drives NoJob places n v (heard (heard (heard n (Epoch e)) Stored) (Epoch again))
      (with_words v (after_epoch (after_own (after_epoch v.words e) (Some e)) again))) (sym at)
      (λ c. let n : Machine J = record m { stage = LoadPin } in (
        at_start,
        record { ask = LoadEpoch; reply = Heard (Epoch e) }
            ∷ record { ask = StorePinned e; reply = Heard Stored }
            ∷ record { ask = LoadEpoch; reply = Heard (Epoch again) } ∷ [],
        (
          situated (heard n (Epoch e)) (with_words v (after_epoch v.words e)) at_start,
          record { asked = refl; is_reply = tt; performs = (rises, refl, refl); machine = refl },
          (
            situated (heard (heard n (Epoch e)) Stored)
                (with_words v (after_own (after_epoch v.words e) (Some e))) at_start,
            record { asked = refl; is_reply = tt; performs = (omega arith, refl, refl); machine = refl },
            one_performed places _ _ _
                (record { asked = refl; is_reply = tt; performs = (rises_again, refl, refl); machine = refl }),
          ),
        ),
        (tt, (tt, (tt, tt))),
      ))

  -- the one step of a repin that finds the published epoch is what its machine asks for
  pub repin_same_performed : (places : ℕ) (m : Machine J) (v : Sight J) (e : ℕ)
      → m.stage ≡ LoadRepin
      → v.words.seen ≤ e
      → Drives NoJob places m v (heard m (Epoch e)) (with_words v (after_epoch v.words e))
  repin_same_performed places m v e at rises =
      subst (λ (s : Stage). let n : Machine J = record m { stage = s } in
      Drives NoJob places n v (heard n (Epoch e)) (with_words v (after_epoch v.words e))) (sym at)
      (λ c. (
        at_start,
        record { ask = LoadEpoch; reply = Heard (Epoch e) } ∷ [],
        one_performed places _ _ _
            (record { asked = refl; is_reply = tt; performs = (rises, refl, refl); machine = refl }),
        (tt, tt),
      ))

  -- a machine at the store of a repin, which reads the epoch again after it
  repin_stores : (places : ℕ) (m : Machine J) (v : Sight J) (e again : ℕ)
      → e ≤ v.words.seen
      → v.words.seen ≤ again
      → Drives NoJob places (record m { stage = StoreRepin e }) v
      (heard (heard (record m { stage = StoreRepin e }) Stored) (Epoch again))
      (with_words v (after_epoch (after_own v.words (Some e)) again))
  repin_stores places m v e again read rises = λ c. (
    at_start,
    record { ask = StoreRepinned e; reply = Heard Stored }
        ∷ record { ask = LoadEpoch; reply = Heard (Epoch again) } ∷ [],
    (
      situated (heard (record m { stage = StoreRepin e }) Stored) (with_words v (after_own v.words (Some e))) c,
      record { asked = refl; is_reply = tt; performs = (read, refl, refl); machine = refl },
      one_performed places _ _ _
          (record { asked = refl; is_reply = tt; performs = (rises, refl, refl); machine = refl }),
    ),
    (tt, (tt, tt)),
  )

  -- and so are the three steps of one that finds another epoch
  pub repin_moved_performed : (places : ℕ) (m : Machine J) (v : Sight J) (e again : ℕ)
      → m.guards ≡ 1
      → m.published ≢ e
      → v.words.seen ≤ e
      → e ≤ again
      → Drives NoJob places (begun Repin m) v (heard (heard (heard (begun Repin m) (Epoch e)) Stored) (Epoch again))
      (with_words v (after_epoch (after_own (after_epoch v.words e) (Some e)) again))
  repin_moved_performed places m v e again one moved rises rises_again =
      drives_on NoJob places (begun Repin m) (heard (begun Repin m) (Epoch e)) _ v
      (with_words v (after_epoch v.words e)) _
      (repin_same_performed places (begun Repin m) v e (repin_begins m one) rises)
      (subst (λ (z : Machine J). Drives NoJob places z (with_words v (after_epoch v.words e))
      (heard (heard z Stored) (Epoch again))
      (with_words v (after_epoch (after_own (after_epoch v.words e) (Some e)) again))) (sym (repin_moves m e one moved))
      (repin_stores places (begun Repin m) (with_words v (after_epoch v.words e)) e again (omega arith) rises_again))

  -- the one step of an unpin is what its machine asks for
  pub unpin_performed : (places : ℕ) (m : Machine J) (v : Sight J)
      → m.stage ≡ StageUnpinned
      → Drives NoJob places m v (heard m Stored) (with_words v (after_own v.words None))
  unpin_performed places m v at =
      subst (λ (s : Stage). let n : Machine J = record m { stage = s } in
      Drives NoJob places n v (heard n Stored) (with_words v (after_own v.words None))) (sym at)
      (λ c. (
        c,
        record { ask = StoreUnpinned; reply = Heard Stored } ∷ [],
        one_performed places _ _ _ (record { asked = refl; is_reply = tt; performs = (refl, refl); machine = refl }),
        (tt, tt),
      ))

-- WHAT A HANDLE KNOWS

-- the word says what the machine says, with the first reading at hand
pub record AgreesWith {J : Type 0} (m : Machine J) (v : ParticipantView) : Type 0 where
  pub published : 0 < m.guards → v.published ≡ Some m.published
  pub read : 0 < m.guards → (epoch : ℕ) × (v.first_read ≡ Some epoch)
  pub unpinned : m.guards ≡ 0 → v.published ≡ None

-- what is there is some number
pub reading : (o : Option ℕ) → o ≢ None → (epoch : ℕ) × (o ≡ Some epoch)
reading None there = absurd (there refl)
reading (Some epoch) there = (epoch, refl)

module _ {T W : Type 0} where
  -- what the seats know after a step
  pub sight_after : (h n : Local T W) (view : ParticipantView)
      → Steps h n view → sight_of n ≡ with_words (sight_of h) view
  sight_after h n view steps = ap (λ (z : ParticipantView). record { words = z; places = n.claimer.me }) steps.knows
      ∙ ap (λ z. record { words = view; places = z.me }) steps.claimer

  -- a handle that takes the steps of a pin drives the machine of a pin
  pub pin_drives : (h n : Local T W) (m : Machine (Job W)) (e : ℕ)
      → m.stage ≡ LoadPin
      → (steps : PinSteps h e n)
      → Drives NoJob h.collector.now.places.capacity m (sight_of h)
      (heard (heard (heard m (Epoch e)) Stored) (Epoch steps.again)) (sight_of n)
  pin_drives h n m e at steps =
      subst (λ (z : Sight (Job W)). Drives NoJob h.collector.now.places.capacity m (sight_of h)
      (heard (heard (heard m (Epoch e)) Stored) (Epoch steps.again)) z)
      (sym (sight_after h n _ steps.steps))
      (pin_performed h.collector.now.places.capacity m (sight_of h) e steps.again at steps.rises steps.rises_again)

  -- it is pinned after the steps of a pin
  pub pinned_behind : (h n : Local T W) (e : ℕ) → PinSteps h e n → IsPinned n.seat.me.0
  pinned_behind h n e steps = record {
    published = (e, ap (λ (z : ParticipantView). z.published) steps.steps.knows);
    read = (steps.again, ap (λ (z : ParticipantView). z.first_read) steps.steps.knows);
  }

  -- another machine of the same sizes leaves the participant seated
  pub seated_with : (h : Local T W) (m : Machine (Job W))
      → m.sizes ≡ h.machine.sizes → IsSeated h → IsSeated (record h { machine = m })
  seated_with h m sizes seated = record {
    words_of = seated.words_of;
    places_of = seated.places_of;
    own = seated.own;
    sizes = sizes ∙ seated.sizes;
    positions = seated.positions;
  }

  -- after an action that ends with its guard counted
  pub ready_with : (h : Local T W) (m : Machine (Job W))
      → IsSeated h
      → RestsAt h.claimer.me
      → m.sizes ≡ h.machine.sizes
      → m.stage ≡ Idle
      → AgreesWith m h.seat.me.0
      → IsReady (record h { machine = m })
  ready_with h m seated rests sizes idle agrees = record {
    seated = seated_with h m sizes seated;
    rests = rests;
    idle = idle;
    agrees = record {
      published = agrees.published;
      read = λ out none. absurd (cc (none, (agrees.read out).1));
      unpinned = agrees.unpinned;
    };
  }

  -- a step of the other seat leaves this one at rest
  pub rests_still : (h n : Local T W) (view : ParticipantView)
      → Steps h n view → RestsAt h.claimer.me → RestsAt n.claimer.me
  rests_still h n view steps rests = subst (λ z. RestsAt z.me) (sym steps.claimer) rests

  -- a pinned participant that loads the epoch keeps its first reading
  pub still_read : (h n : Local T W) (e first published : ℕ)
      → h.seat.me.0.published ≡ Some published
      → h.seat.me.0.first_read ≡ Some first
      → Steps h n (after_epoch h.seat.me.0 e)
      → n.seat.me.0.first_read ≡ Some first
  still_read h n e first published is_published is_read steps =
      ap (λ (z : ParticipantView). z.first_read) steps.knows
      ∙ ap (λ z. first_after z h.seat.me.0.first_read e) is_published
      ∙ ap (λ z. first_after (Some published) z e) is_read

  -- one step after another
  pub steps_on : (h n o : Local T W) (view other : ParticipantView) → Steps h n view → Steps n o other → Steps h o other
  steps_on h n o view other first second = record {
    seated = second.seated;
    knows = second.knows;
    claimer = second.claimer ∙ first.claimer;
    machine = second.machine ∙ first.machine;
    position = second.position ∙ first.position;
    collector = second.collector ∙ first.collector;
  }

  -- a load, a store of the epoch found, and a load
  pub republished : (h n o w : Local T W) (e again : ℕ)
      → h.seat.me.0.seen ≤ e
      → o.seat.me.0.seen ≤ again
      → Steps h n (after_epoch h.seat.me.0 e)
      → Steps n o (after_own n.seat.me.0 (Some e))
      → Steps o w (after_epoch o.seat.me.0 again)
      → PinSteps h e w
  republished h n o w e again rises rises_again first second third = record {
    again = again;
    rises = rises;
    rises_again = subst (λ (z : ℕ). z ≤ again)
        (ap (λ (z : ParticipantView). z.seen) (second.knows ∙ ap (λ z. after_own z (Some e)) first.knows)) rises_again;
    steps = subst (λ z. Steps h w (after_epoch z again)) (second.knows ∙ ap (λ z. after_own z (Some e)) first.knows)
        (steps_on h o w _ _ (steps_on h n o _ _ first second) third);
  }
