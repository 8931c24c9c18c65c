-- The two participants leave: the caller defers its job once more, and its release puts it into the place.
use Rattle.std.proofs.Common.{◌≡◌, ◌≢◌, ℕ, zero, suc, ◌+◌, ◌*◌, ◌<◌, List, [], ◌∷◌, ◌++◌, Option, Some}
use Rattle.std.proofs.Common.{None, inr, refl, sym, arith}
use Rattle.std.specs.Prelude.{slice_index_or}
use mathlib.Core.Option.{some, some-injective, some-ne-none}
use lib.ListN.{get_elem?}
use Rattle.epoch_bags.specs.Bags.{Sealed}
use Rattle.epoch_bags.specs.declared.queue.places.PutCursor.TheVariants.{Look as PutLook, Fill}
use Rattle.epoch_bags.specs.declared.queue.places.TakeCursor.TheVariants.{Look as TakeLook}
use Rattle.epoch_tables.specs.ClosedPlaces.{AreLast}
use Rattle.epoch_tables.specs.TableSteps.{after_epoch, after_own, after_free}
use Rattle.epoch_tables.specs.SharedPlaces.{after_look, after_place_claim, after_store}
use Rattle.epoch_tables.specs.declared.table.view.ParticipantView.{ParticipantView}
use Rattle.epoch_tables.specs.declared.shared_places.view.PlaceView.{PlaceView}
use Rattle.epoch_machine.specs.declared.machine.Action.{Action}
use Rattle.epoch_machine.specs.declared.machine.Action.TheVariants.{Pin, Unpin, Defer, Flush, Release}
use Rattle.epoch_machine.specs.declared.machine.Stage.TheVariants.{End}
use Rattle.epoch_machine.specs.Machine.{ended, fresh}
use Rattle.epoch_machine.specs.Asks.{Log}
use Rattle.epoch_handles.specs.Drives.{Situation, situated, at_start}
use Rattle.epoch_handles.specs.JobsKept.{Life, IsLifeOf, HasLeft, PerformedCalls, with_action}
use Rattle.epoch_handles.specs.ThreadsMet.{IsLeftOnThreads}
use Rattle.epoch_handles.proofs.PerformedSteps.{To, nothing, plainly, knows, cursors, by_epoch, by_pin, by_unpin}
use Rattle.epoch_handles.proofs.PerformedSteps.{by_free, by_job, by_put}
use Rattle.epoch_handles.proofs.SomeThreads.{sizes, reader_words, caller_words, reader_over, caller_over}
use Rattle.epoch_handles.proofs.SomeThreads.{looked_once, caller_emptied, over, registered, reader_pins}
use Rattle.epoch_handles.proofs.SomeThreads.{reader_unpins, caller_pins, caller_between, caller_calls}
use Rattle.epoch_handles.proofs.SomeThreads.{rests_after, reader_2, caller_6, reader, caller, reader_lives}
use Rattle.epoch_handles.proofs.SomeThreads.{caller_lives}
use Rattle.epoch_handles.proofs.TwoSeats.{one_place, two_share}

-- these calls, and then those
and_then : {J : Type 0} (places : ℕ) (before mid last : Situation J) (call next : Action × Log J)
    (calls more : List (Action × Log J)) → PerformedCalls places before call calls mid → mid.machine.stage ≡ End
    → PerformedCalls places (record mid { machine = ended mid.machine }) next more last
    → PerformedCalls places before call (calls ++ next ∷ more) last
and_then places before mid last call next [] more did at_end later = (mid, did, at_end, later)
and_then places before mid last call next (second ∷ calls) more (between, did, ended_there, rest) at_end later = (
  between,
  did,
  ended_there,
  and_then places (record between { machine = ended between.machine }) mid last second next calls more rest at_end
      later,
)

-- WHAT THE SEATS KNOW

abbrev reader_left : ParticipantView
reader_left = after_free (after_own (after_epoch (after_own (after_epoch reader_over 3) (Some 3)) 3) None)

abbrev caller_unpinned : ParticipantView
caller_unpinned = after_own caller_over None

abbrev caller_left : ParticipantView
caller_left = after_free
    (after_own (after_epoch (after_epoch (after_own (after_epoch caller_unpinned 3) (Some 3)) 3) 3) None)

module _ {J : Type 0} (job : J) where
  abbrev bag : Sealed J
  bag = record { seal = 3; jobs = job ∷ [] }

  abbrev caller_filled : PlaceView J
  caller_filled =
      after_store (after_place_claim (after_look (caller_emptied job) 0 0) 0 0 None) (Some bag)

  -- CALLS

  abbrev reader_3 : Situation J
  reader_3 = situated (fresh sizes) (knows reader_left (looked_once job, [])) at_start

  abbrev caller_7 : Situation J
  caller_7 = over job Defer 1 2 1 (job ∷ []) caller_over (caller_emptied job) (PutLook 0) 1

  abbrev caller_8 : Situation J
  caller_8 = over job Unpin 1 2 1 (job ∷ []) caller_unpinned (caller_emptied job) (PutLook 0) 1

  abbrev caller_9 : Situation J
  caller_9 = situated (fresh sizes) (knows caller_left (caller_filled, [])) (cursors (Fill 0) (TakeLook 0))

  abbrev reader_leaves : To reader_3 (with_action Release (rests_after job (reader_2 job)))
  reader_leaves =
      by_epoch 3 refl (omega arith) (by_pin 3 refl (omega arith) (by_epoch 3 refl (omega arith)
      (by_unpin refl (by_free refl nothing))))

  abbrev caller_defers : To caller_7 (with_action Defer (rests_after job (caller_6 job)))
  caller_defers = by_job job refl nothing

  abbrev caller_unpins : To caller_8 (with_action Unpin (rests_after job caller_7))
  caller_unpins = by_unpin refl nothing

  abbrev caller_leaves : To caller_9 (with_action Release (rests_after job caller_8))
  caller_leaves =
      by_epoch 3 refl (omega arith) (by_pin 3 refl (omega arith) (by_epoch 3 refl (omega arith)
      (by_epoch 3 refl (omega arith) (by_put 3 refl (by_unpin refl (by_free refl nothing))))))

  -- LIVES

  abbrev reader_last : Life J
  reader_last = record (reader job) { calls = (reader job).calls ++ (Release, reader_leaves.0) ∷ []; now = reader_3 }

  abbrev caller_last : Life J
  caller_last = record (caller job) {
    calls = (caller job).calls
        ++ (Defer, caller_defers.0) ∷ (Unpin, caller_unpins.0) ∷ (Release, caller_leaves.0) ∷ [];
    now = caller_9;
  }

  reader_lived : IsLifeOf 1 (looked_once job) reader_last
  reader_lived = record {
    registered = (reader_lives job).registered;
    performed = and_then 1 (registered job reader_words) (reader_2 job) reader_3 (Pin, (reader_pins job).0)
        (Release, reader_leaves.0) ((Unpin, (reader_unpins job).0) ∷ []) [] (reader_lives job).performed refl
        (plainly (with_action Release (rests_after job (reader_2 job))) reader_3 reader_leaves);
    view_now = refl;
  }

  caller_ends : PerformedCalls 1 (rests_after job (caller_6 job)) (Defer, caller_defers.0)
      ((Unpin, caller_unpins.0) ∷ (Release, caller_leaves.0) ∷ []) caller_9
  caller_ends = (
    caller_7,
    plainly (with_action Defer (rests_after job (caller_6 job))) caller_7 caller_defers,
    refl,
    (
      caller_8,
      plainly (with_action Unpin (rests_after job caller_7)) caller_8 caller_unpins,
      refl,
      plainly (with_action Release (rests_after job caller_8)) caller_9 caller_leaves,
    ),
  )

  caller_lived : IsLifeOf 1 caller_filled caller_last
  caller_lived = record {
    registered = (caller_lives job).registered;
    performed = and_then 1 (registered job caller_words) (caller_6 job) caller_9 (Pin, (caller_pins job).0)
        (Defer, caller_defers.0) (caller_between job ++ (Flush, (caller_calls job).0) ∷ [])
        ((Unpin, caller_unpins.0) ∷ (Release, caller_leaves.0) ∷ []) (caller_lives job).performed refl caller_ends;
    view_now = refl;
  }

  -- THE CLOSED PLACE

  at_home : (place : ℕ) (content : Option (Sealed J)) → get_elem? (some (Some bag) ∷ []) place ≡ some (some content)
      → get_elem? (Some bag ∷ []) place ≡ some content
  at_home zero content is = some-injective _ _ is
  at_home (suc place) content is = absurd (some-ne-none _ (sym is))

  claimed_by_none : 2 * bag.seal + 1 ≢ 2
  claimed_by_none same = absurd (omega (arith, same))

  abbrev last : AreLast 1 (Some bag ∷ [])
  last = record {
    state = one_place 7 (Some bag) (looked_once job) caller_filled;
    agrees = two_share 7 (Some bag) (looked_once job) caller_filled (inr (inr (3, refl))) refl claimed_by_none refl refl
        (λ weigh. omega arith);
    as_many = refl;
    at_home = at_home;
  }

  have_left : (k : ℕ) (d : Life J) → k < 2 → HasLeft (slice_index_or (reader_last ∷ caller_last ∷ []) k d).now
  have_left zero d below = record { sizes = sizes; machine = refl; rests = (refl, refl) }
  have_left (suc zero) d below = record { sizes = sizes; machine = refl; rests = (refl, refl) }
  have_left (suc (suc k)) d below = absurd (omega (arith, below))

  -- The premises of the law on an end are met, with a job that is left.
  pub some_threads_leave : IsLeftOnThreads job
  some_threads_leave = record {
    reader = reader_last;
    caller = caller_last;
    seal = 3;
    last = last;
    are_lives = (reader_lived, (caller_lived, tt));
    have_left = have_left;
    kept = refl;
    given = refl;
  }
