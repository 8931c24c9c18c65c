-- Two participants over a table of two positions and one place. The reader pins at epoch 0 and advances it to 1. The
-- caller pins at 1, defers a job, and puts it into the place in a bag sealed with 1. Once the reader has unpinned, the
-- caller advances the epoch to 2 and, after a repin, to 3, and calls the job.
use Rattle.std.proofs.Common.{ℕ, ◌≤◌, false, List, [], ◌∷◌, ◌++◌, Some}
use Rattle.std.proofs.Common.{None, inl, inr, refl, arith}
use Rattle.epoch_bags.specs.Bags.{Sealed}
use Rattle.epoch_bags.specs.CursorSteps.{IsExpiredWord}
use Rattle.epoch_bags.specs.declared.queue.places.PutCursor.{PutCursor}
use Rattle.epoch_bags.specs.declared.queue.places.PutCursor.TheVariants.{Look as PutLook}
use Rattle.epoch_bags.specs.declared.queue.places.TakeCursor.TheVariants.{Look as TakeLook}
use Rattle.epoch_tables.specs.Table.{LetsPass}
use Rattle.epoch_tables.specs.TableSteps.{without_position, after_epoch, after_own, after_word, after_pass}
use Rattle.epoch_tables.specs.TableSteps.{after_advance, after_claim}
use Rattle.epoch_tables.specs.SharedPlaces.{with_claim, after_look, after_place_claim, after_store}
use Rattle.epoch_tables.specs.declared.table.view.ParticipantView.{ParticipantView}
use Rattle.epoch_tables.specs.declared.shared_places.view.PlaceView.{PlaceView}
use Rattle.epoch_machine.specs.declared.machine.Action.{Action}
use Rattle.epoch_machine.specs.declared.machine.Action.TheVariants.{Pin, Unpin, Repin, Defer, Flush}
use Rattle.epoch_machine.specs.declared.machine.Sizes.{Sizes}
use Rattle.epoch_machine.specs.declared.machine.Stage.TheVariants.{End}
use Rattle.epoch_machine.specs.Machine.{ended, fresh}
use Rattle.epoch_machine.specs.Asks.{Log}
use Rattle.epoch_handles.specs.Drives.{Situation, situated, at_start}
use Rattle.epoch_handles.specs.JobsKept.{Life, IsLifeOf, with_action}
use Rattle.epoch_handles.proofs.PerformedSteps.{To, nothing, plainly, knows, cursors, by_epoch, by_pin, by_repin}
use Rattle.epoch_handles.proofs.PerformedSteps.{by_unpin, by_pass, by_stop, by_advance, by_job, by_call, by_put}
use Rattle.epoch_handles.proofs.PerformedSteps.{by_none, by_look, by_claim, by_got}

-- WHAT THE SEATS KNOW

-- two positions, a job a bag, and one bag a collection
abbrev pub sizes : Sizes
sizes = record { positions = 2; bag_jobs = 1; collect_bags = 1 }

-- Each has loaded the epoch and claimed a position. The caller found the first one taken.
abbrev pub reader_words : ParticipantView
reader_words = after_claim (without_position 0 (None ∷ []) (0 ∷ []) [] []) 0 0

abbrev pub caller_words : ParticipantView
caller_words = after_claim (after_word (without_position 0 (None ∷ []) (0 ∷ []) [] []) 0 2) 1 0

-- after the reader's pin, and its unpin
abbrev pub reader_pinned : ParticipantView
reader_pinned =
    after_advance (after_pass (after_pass (after_epoch (after_epoch
    (after_own (after_epoch reader_words 0) (Some 0)) 0) 0) 0 0 1) 0 1 2) 1

abbrev pub reader_over : ParticipantView
reader_over = after_own reader_pinned None

-- after the caller's pin, when it seals its bag, after each of its flushes, and after its repin before the last one
abbrev pub caller_pinned : ParticipantView
caller_pinned =
    after_word (after_epoch (after_epoch (after_own (after_epoch caller_words 1) (Some 1)) 1) 1) 0 1

abbrev pub caller_sealing : ParticipantView
caller_sealing = after_epoch caller_pinned 1

abbrev caller_put : ParticipantView
caller_put = after_word (after_epoch caller_sealing 1) 0 1

abbrev caller_advanced : ParticipantView
caller_advanced = after_advance (after_pass (after_pass (after_epoch caller_put 1) 1 0 2) 1 1 3) 2

abbrev caller_repinned : ParticipantView
caller_repinned = after_epoch (after_own (after_epoch caller_advanced 2) (Some 2)) 2

abbrev pub caller_over : ParticipantView
caller_over = after_advance (after_pass (after_pass (after_epoch caller_repinned 2) 2 0 2) 2 1 5) 3

module _ {J : Type 0} (job : J) where
  -- the bag that the caller puts into the place
  abbrev pub bag : Sealed J
  bag = record { seal = 1; jobs = job ∷ [] }

  -- what a new seat at the place knows
  abbrev pub at_no_place : PlaceView J
  at_no_place = with_claim None [] [] [] []

  -- after one look at the empty place, after the caller's first flush, its second one and its third one
  abbrev pub looked_once : PlaceView J
  looked_once = after_look at_no_place 0 0

  abbrev caller_filled : PlaceView J
  caller_filled =
      after_look (after_store (after_place_claim (after_look looked_once 0 0) 0 0 None) (Some bag)) 0 3

  abbrev caller_looked : PlaceView J
  caller_looked = after_look caller_filled 0 3

  abbrev pub caller_emptied : PlaceView J
  caller_emptied = after_store (after_place_claim (after_look caller_looked 0 3) 0 3 (Some bag)) None

  -- CALLS

  -- registered, and nothing else
  abbrev pub registered : ParticipantView → Situation J
  registered words = situated (fresh sizes) (knows words (at_no_place, [])) at_start

  -- at the end of an action, with so many guards before it
  abbrev pub over : Action → (guards published pins : ℕ) → List J → ParticipantView → PlaceView J → PutCursor → ℕ
      → Situation J
  over action guards published pins held words places put take = situated
      (record {
        stage = End;
        action = action;
        guards = guards;
        published = published;
        pins = pins;
        sizes = sizes;
        full = false;
        held = held;
        hand = [];
      })
      (knows words (places, [])) (cursors put (TakeLook take))

  -- between two actions
  abbrev pub rests_after : Situation J → Situation J
  rests_after last = record last { machine = ended last.machine }

  -- at the end of the reader's first action and of its second one, and of the caller's six
  abbrev reader_1 : Situation J
  reader_1 = over Pin 0 0 1 [] reader_pinned looked_once (PutLook 0) 1

  abbrev pub reader_2 : Situation J
  reader_2 = over Unpin 1 0 1 [] reader_over looked_once (PutLook 0) 1

  abbrev caller_1 : Situation J
  caller_1 = over Pin 0 1 1 [] caller_pinned looked_once (PutLook 0) 1

  abbrev caller_2 : Situation J
  caller_2 = over Defer 1 1 1 (job ∷ []) caller_pinned looked_once (PutLook 0) 1

  abbrev caller_3 : Situation J
  caller_3 = over Flush 1 1 1 [] caller_put caller_filled (PutLook 0) 1

  abbrev caller_4 : Situation J
  caller_4 = over Flush 1 1 1 [] caller_advanced caller_looked (PutLook 0) 1

  abbrev pub caller_5 : Situation J
  caller_5 = over Repin 1 2 1 [] caller_repinned caller_looked (PutLook 0) 0

  abbrev pub caller_6 : Situation J
  caller_6 = over Flush 1 2 1 [] caller_over caller_emptied (PutLook 0) 1

  -- An empty place has no expired bag, and the bag sealed with 1 isn't expired for an epoch up to 2.
  pub none_there : (x : ℕ) → ¬ (IsExpiredWord x 0)
  none_there x (seal, same, expired) = absurd (omega (arith, same))

  pub too_early : (x : ℕ) → x ≤ 2 → ¬ (IsExpiredWord x 3)
  too_early x early (seal, same, expired) = absurd (omega (arith, same, expired, early))

  -- the reader's word, pinned at 0, doesn't let a scan for 1 pass
  pub held_up : ¬ (LetsPass 1 1)
  held_up (inl is) = cc is
  held_up (inr (inl is)) = cc is
  held_up (inr (inr is)) = cc is

  -- what each does from its registration, or from the action before, to the end of the action
  abbrev pub reader_pins : To reader_1 (with_action Pin (registered reader_words))
  reader_pins =
      by_epoch 0 refl (omega arith) (by_pin 0 refl (omega arith) (by_epoch 0 refl (omega arith)
      (by_epoch 0 refl (omega arith) (by_pass 0 0 1 refl refl (inr (inr (0, refl))) (inr (inr refl))
      (by_pass 0 1 2 refl refl (inr (inl refl)) (inr (inl refl)) (by_advance 1 refl (omega arith)
      (by_none 1 0 refl (none_there 1) nothing)))))))

  abbrev pub reader_unpins : To reader_2 (with_action Unpin (rests_after reader_1))
  reader_unpins = by_unpin refl nothing

  abbrev pub caller_pins : To caller_1 (with_action Pin (registered caller_words))
  caller_pins =
      by_epoch 1 refl (omega arith) (by_pin 1 refl (omega arith) (by_epoch 1 refl (omega arith)
      (by_epoch 1 refl (omega arith) (by_stop 1 0 1 refl refl (inr (inr (0, refl))) held_up
      (by_none 1 0 refl (none_there 1) nothing)))))

  abbrev caller_defers : To caller_2 (with_action Defer (rests_after caller_1))
  caller_defers = by_job job refl nothing

  abbrev caller_puts : To caller_3 (with_action Flush (rests_after caller_2))
  caller_puts =
      by_epoch 1 refl (omega arith) (by_put 1 refl (by_epoch 1 refl (omega arith)
      (by_stop 1 0 1 refl refl (inr (inr (0, refl))) held_up
      (by_none 1 3 refl (too_early 1 (omega arith)) nothing))))

  abbrev caller_advances : To caller_4 (with_action Flush (rests_after caller_3))
  caller_advances =
      by_epoch 1 refl (omega arith) (by_pass 1 0 2 refl refl (inr (inl refl)) (inr (inl refl))
      (by_pass 1 1 3 refl refl (inr (inr (1, refl))) (inr (inr refl)) (by_advance 2 refl (omega arith)
      (by_none 2 3 refl (too_early 2 (omega arith)) nothing))))

  abbrev caller_repins : To caller_5 (with_action Repin (rests_after caller_4))
  caller_repins =
      by_epoch 2 refl (omega arith) (by_repin 2 refl (omega arith) (by_epoch 2 refl (omega arith) nothing))

  abbrev pub caller_calls : To caller_6 (with_action Flush (rests_after caller_5))
  caller_calls =
      by_epoch 2 refl (omega arith) (by_pass 2 0 2 refl refl (inr (inl refl)) (inr (inl refl))
      (by_pass 2 1 5 refl refl (inr (inr (2, refl))) (inr (inr refl)) (by_advance 3 refl (omega arith)
      (by_look 3 1 refl (omega arith) (by_claim 3 bag refl (by_got 3 bag refl (omega arith)
      (by_call job refl refl nothing)))))))

  -- LIVES

  abbrev pub reader : Life J
  reader = record {
    start = registered reader_words;
    calls = (Pin, reader_pins.0) ∷ (Unpin, reader_unpins.0) ∷ [];
    now = reader_2;
  }

  -- the caller's calls between the first one and the last one
  abbrev pub caller_between : List (Action × Log J)
  caller_between = (Defer, caller_defers.0) ∷ (Flush, caller_puts.0) ∷ (Flush, caller_advances.0)
      ∷ (Repin, caller_repins.0) ∷ []

  abbrev pub caller : Life J
  caller = record {
    start = registered caller_words;
    calls = (Pin, caller_pins.0) ∷ caller_between ++ (Flush, caller_calls.0) ∷ [];
    now = caller_6;
  }

  -- These are the lives of the seats that know so of the place.
  pub reader_lives : IsLifeOf 1 looked_once reader
  reader_lives = record {
    registered = record { sizes = sizes; machine = refl; places = refl };
    performed = (
      reader_1,
      plainly (with_action Pin (registered reader_words)) reader_1 reader_pins,
      refl,
      plainly (with_action Unpin (rests_after reader_1)) reader_2 reader_unpins,
    );
    view_now = refl;
  }

  pub caller_lives : IsLifeOf 1 caller_emptied caller
  caller_lives = record {
    registered = record { sizes = sizes; machine = refl; places = refl };
    performed = (
      caller_1,
      plainly (with_action Pin (registered caller_words)) caller_1 caller_pins,
      refl,
      (
        caller_2,
        plainly (with_action Defer (rests_after caller_1)) caller_2 caller_defers,
        refl,
        (
          caller_3,
          plainly (with_action Flush (rests_after caller_2)) caller_3 caller_puts,
          refl,
          (
            caller_4,
            plainly (with_action Flush (rests_after caller_3)) caller_4 caller_advances,
            refl,
            (
              caller_5,
              plainly (with_action Repin (rests_after caller_4)) caller_5 caller_repins,
              refl,
              plainly (with_action Flush (rests_after caller_5)) caller_6 caller_calls,
            ),
          ),
        ),
      ),
    );
    view_now = refl;
  }
