-- The two participants meet the premises of the laws on threads, with a job that they keep and call.
use Rattle.std.proofs.Common.{ℕ, zero, suc, ◌<◌, ◌≤◌, ◌∷◌, None, inl, refl, sym, arith}
use Rattle.std.proofs.lemmas.Option.{same_Some, some_pair_parts}
use Rattle.std.specs.List.{Contains}
use Rattle.epoch_tables.specs.Table.{Sees}
use Rattle.epoch_tables.specs.declared.table.view.ParticipantView.{ParticipantView}
use Rattle.epoch_machine.specs.declared.machine.Action.TheVariants.{Pin, Flush}
use Rattle.epoch_handles.specs.JobsKept.{with_action}
use Rattle.epoch_handles.specs.ThreadsMet.{SharesAPlace, GetsItsBag, WasPinnedAt, IsCalledOnThreads}
use Rattle.epoch_handles.proofs.PerformedSteps.{plainly}
use Rattle.epoch_handles.proofs.SomeThreads.{reader_pinned, reader_over, caller_sealing, caller_over, looked_once}
use Rattle.epoch_handles.proofs.SomeThreads.{caller_emptied, rests_after, caller_5, caller_6, caller_calls}
use Rattle.epoch_handles.proofs.SomeThreads.{caller_pins, caller_between}
use Rattle.epoch_handles.proofs.SomeThreads.{reader, caller, reader_lives, caller_lives}
use Rattle.epoch_handles.proofs.TwoSeats.{IsSeatAt, table, two_agree, one_place, two_share}

-- THE TABLE, WHEN THE BAG IS SEALED AND NOW

reader_was : IsSeatAt 1 0 reader_pinned
reader_was = record {
  has = refl;
  seen = omega arith;
  published = λ number is. omega (arith, same_Some 0 number is);
  near = λ first is. let same = same_Some 0 first is in
      (0, refl, omega arith, omega (arith, same), omega (arith, same));
  scans = λ scanned passed is. absurd (cc is);
}

caller_was : IsSeatAt 1 1 caller_sealing
caller_was = record {
  has = refl;
  seen = omega arith;
  published = λ number is. omega (arith, same_Some 1 number is);
  near = λ first is. let same = same_Some 1 first is in
      (1, refl, omega (arith, same), omega (arith, same), omega (arith, same));
  scans = λ scanned passed is. let same = some_pair_parts 1 scanned 0 passed is in
      (sym same.1, (1, refl, omega (arith, same.0)), omega (arith, same.0));
}

reader_is : IsSeatAt 3 0 reader_over
reader_is = record {
  has = refl;
  seen = omega arith;
  published = λ number is. absurd (cc is);
  near = λ first is. absurd (cc is);
  scans = λ scanned passed is. absurd (cc is);
}

caller_is : IsSeatAt 3 1 caller_over
caller_is = record {
  has = refl;
  seen = omega arith;
  published = λ number is. omega (arith, same_Some 2 number is);
  near = λ first is. let same = same_Some 2 first is in
      (2, refl, omega (arith, same), omega (arith, same), omega (arith, same));
  scans = λ scanned passed is. absurd (cc is);
}

-- the reader has stored the epoch 1, and the caller those that follow
stored_then : (number : ℕ) → 0 < number → number ≤ 1 → (seat : ℕ) × (view : ParticipantView)
    × Sees (table 1 reader_pinned caller_sealing) seat view × Contains view.advanced number
stored_then zero some most = absurd (omega (arith, some))
stored_then (suc zero) some most = (0, reader_pinned, refl, (0, omega arith, refl))
stored_then (suc (suc number)) some most = absurd (omega (arith, most))

stored_now : (number : ℕ) → 0 < number → number ≤ 3 → (seat : ℕ) × (view : ParticipantView)
    × Sees (table 3 reader_over caller_over) seat view × Contains view.advanced number
stored_now zero some most = absurd (omega (arith, some))
stored_now (suc zero) some most = (0, reader_over, refl, (0, omega arith, refl))
stored_now (suc (suc zero)) some most = (1, caller_over, refl, (0, omega arith, refl))
stored_now (suc (suc (suc zero))) some most = (1, caller_over, refl, (1, omega arith, refl))
stored_now (suc (suc (suc (suc number)))) some most = absurd (omega (arith, most))

-- THE JOB

module _ {J : Type 0} (job : J) where
  shares : SharesAPlace job (reader job) (caller job)
  shares = record {
    reads = refl;
    calls = refl;
    kept = refl;
    given = refl;
    places = one_place 0 None (looked_once job) (caller_emptied job);
    agree = two_share 0 None (looked_once job) (caller_emptied job) (inl refl) refl (λ is. cc is) refl refl
        (λ weigh. omega arith);
    are_lives = (reader_lives job, (caller_lives job, tt));
  }

  abbrev bag : GetsItsBag job (caller job)
  bag = record {
    seal = 1;
    before = rests_after job (caller_5 job);
    log = (caller_calls job).0;
    earlier = (Pin, (caller_pins job).0) ∷ caller_between job;
    last = refl;
    performed = plainly (with_action Flush (rests_after job (caller_5 job))) (caller_6 job) (caller_calls job);
    gets = (caller_calls job).2;
  }

  waits : WasPinnedAt 1 (reader job) (caller job)
  waits = record {
    then = table 1 reader_pinned caller_sealing;
    agreed = two_agree 1 reader_pinned caller_sealing reader_was caller_was stored_then;
    epoch = refl;
    pinned = (0, reader_pinned, refl, refl);
    now = table 3 reader_over caller_over;
    agree = two_agree 3 reader_over caller_over reader_is caller_is stored_now;
    reader_sees = refl;
    caller_sees = refl;
  }

  -- The premises of the laws on threads are met, by participants that keep a job and call it.
  pub some_threads_call : IsCalledOnThreads job
  some_threads_call = record {
    reader = reader job;
    caller = caller job;
    shares = shares;
    bag = bag;
    waits = waits;
  }
