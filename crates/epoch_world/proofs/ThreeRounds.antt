-- Three rounds of the one participant, after a pin, a deferral and an unpin: the first puts the bag with the job, the
-- second calls it, and the third finds nothing.
use Rattle.std.proofs.Common.{◌≢◌, ℕ, zero, suc, true, false, List, [], ◌∷◌, ◌++◌, Some, inl, refl, arith}
use Rattle.epoch_bags.specs.declared.job.Called.TheVariants.{Ran}
use Rattle.epoch_laws.specs.declared.heap.access.AccessAnswer.TheVariants.{Unit as UnitAnswer}
use Rattle.epoch_machine.specs.declared.machine.Action.TheVariants.{Pin as PinAction, Unpin as UnpinAction}
use Rattle.epoch_machine.specs.declared.machine.Action.TheVariants.{Defer as DeferAction, Flush as FlushAction}
use Rattle.epoch_machine.specs.declared.machine.Stage.TheVariants.{LoadScan, End}
use Rattle.epoch_laws.specs.declared.step.Call.TheVariants.{Pin, Flush}
use Rattle.epoch_laws.specs.declared.step.Entry.{Entry}
use Rattle.epoch_laws.specs.declared.step.Reply.{Reply}
use Rattle.epoch_laws.specs.declared.step.Reply.TheVariants.{Registered, Stepped, Pinned as PinnedReply}
use Rattle.epoch_laws.specs.declared.step.Reply.TheVariants.{Unpinned as UnpinnedReply, Called as CalledReply, Done}
use Rattle.epoch_laws.specs.declared.step.Step.TheVariants.{Register}
use Rattle.epoch_laws.specs.declared.step.Word.TheVariants.{Pinned}
use Rattle.epoch_laws.specs.Run.{State, position_word, Runs}
use Rattle.epoch_laws.proofs.RunsGoOn.{runs_append}
use Rattle.epoch_laws.specs.Rounds.{IsQuiet, IsRound, IsFirstRound}
use Rattle.epoch_world.specs.Met.{MeetsRounds}
use Rattle.epoch_world.proofs.LoneWorld.{around, To, by, first, first_fresh}
use Rattle.epoch_world.proofs.LoneCalls.{resting, by_pinning, by_guard, by_unpin, job}
use Rattle.epoch_world.proofs.LoneCalls.{by_defer, by_scan, by_none, flushing, by_flush, by_flushed}
use Rattle.epoch_world.proofs.LoneCalls.{bag, by_put}
use Rattle.epoch_world.proofs.LoneCalls.{by_got}

-- the state before the rounds, in which a job is held
abbrev held : State
held = resting (around 1 [] 1 false 0) UnpinAction 0 1 (job ∷ [])

-- when the first round has put the bag, and when it is over
abbrev put : State
put = flushing 2 [] (around 1 (bag 1 ∷ []) 1 true 0) 1 LoadScan []

abbrev over : State
over = resting (around 2 (bag 1 ∷ []) 1 true 0) UnpinAction 1 2 []

-- when the second round is over, and the third
abbrev emptied : State
emptied = resting (around 3 [] 1 true 0) UnpinAction 2 3 []

abbrev last : State
last = resting (around 4 [] 1 true 0) UnpinAction 3 4 []

-- the first pin collects, as it always does
abbrev begins : To held first
begins =
    by (resting (around 0 [] 0 false 0) PinAction 0 0 []) Register (Registered 0)
    (inl (0, refl, omega arith, refl, λ k lt. absurd (omega (arith, lt)), refl, refl), (refl, refl, refl, refl))
    (by_pinning (around 0 [] 0 false 0) PinAction 0 0 1 [] LoadScan refl refl
    (by_scan Pin PinAction 0 1 [] [] 0 [] 0 false 0 refl (λ expired. refl) (λ expired. refl)
    (by_none Pin PinAction 0 1 [] [] 0 1 0 [] 0 false refl
    (by_guard (around 1 [] 0 false 0) 0 1 []
    (by_defer 1 0 1
    (by_unpin (around 1 [] 1 false 0) DeferAction 0 1 (job ∷ [])
    ([], refl)))))))

abbrev puts : To put held
puts =
    by_pinning (around 1 [] 1 false 0) UnpinAction 0 1 2 (job ∷ []) End refl refl
    (by_guard (around 1 [] 1 false 0) 1 2 (job ∷ [])
    (by_put PinAction 1 2
    ([], refl)))

-- no bag is expired for the epoch after its seal
abbrev ends : To over put
ends =
    by_scan (Flush (Some 0)) FlushAction 1 2 [] (0 ∷ []) 1 (bag 1 ∷ []) 1 true 0 refl
    (λ expired. absurd (omega (arith, expired.0))) (λ expired. absurd (omega (arith, expired.0)))
    (by_none (Flush (Some 0)) FlushAction 1 2 [] (0 ∷ []) 1 2 0 (bag 1 ∷ []) 1 true refl
    (by_flushed (around 2 (bag 1 ∷ []) 1 true 0) 1 2
    (by_unpin (around 2 (bag 1 ∷ []) 1 true 0) FlushAction 1 2 []
    ([], refl))))

abbrev second : To emptied over
second =
    by_pinning (around 2 (bag 1 ∷ []) 1 true 0) UnpinAction 1 2 3 [] End refl refl
    (by_guard (around 2 (bag 1 ∷ []) 1 true 0) 2 3 []
    (by_flush (around 2 (bag 1 ∷ []) 1 true 0) PinAction 2 3
    (by_scan (Flush (Some 0)) FlushAction 1 3 [] (0 ∷ []) 2 (bag 1 ∷ []) 1 true 1 refl
    (λ expired. absurd (omega (arith, expired.0))) (λ expired. refl)
    (by_got 2 1 3 (omega arith)
    (by_none (Flush (Some 0)) FlushAction 1 3 [] (0 ∷ []) 2 3 1 [] 1 true refl
    (by_flushed (around 3 [] 1 true 0) 2 3
    (by_unpin (around 3 [] 1 true 0) FlushAction 2 3 []
    ([], refl))))))))

abbrev third : To last emptied
third =
    by_pinning (around 3 [] 1 true 0) UnpinAction 2 3 4 [] End refl refl
    (by_guard (around 3 [] 1 true 0) 3 4 []
    (by_flush (around 3 [] 1 true 0) PinAction 3 4
    (by_scan (Flush (Some 0)) FlushAction 1 4 [] (0 ∷ []) 3 [] 1 true 0 refl (λ expired. refl) (λ expired. refl)
    (by_none (Flush (Some 0)) FlushAction 1 4 [] (0 ∷ []) 3 4 0 [] 1 true refl
    (by_flushed (around 4 [] 1 true 0) 3 4
    (by_unpin (around 4 [] 1 true 0) FlushAction 3 4 []
    ([], refl)))))))

-- the replies of a pin, of an unpin, and of a scan with its advance
abbrev pins : List Reply
pins = Stepped ∷ PinnedReply 0 ∷ Stepped ∷ []

abbrev unpins : List Reply
unpins = UnpinnedReply 0 ∷ []

abbrev scans : List Reply
scans = Stepped ∷ Stepped ∷ Stepped ∷ []

abbrev none_found : List Reply
none_found = Stepped ∷ []

-- a round whose Flush gives these replies
abbrev first_round : IsRound 0 (puts.0 ++ ends.0)
first_round = record {
  guard = 0;
  pins = pins;
  flushes = Stepped ∷ Stepped ∷ (scans ++ none_found);
  unpins = unpins;
  flushed = Done UnitAnswer;
  pinning = (refl, (refl, (refl, tt)));
  flushing = (refl, (refl, (refl, (refl, (refl, (refl, tt))))));
  unpinning = (refl, tt);
  ended = refl;
  whole = refl;
}

put_first : IsFirstRound 0 puts.0 put ends.0
put_first = record {
  guard = 0;
  pins = pins;
  puts = Stepped ∷ Stepped ∷ [];
  flushes = scans ++ none_found;
  unpins = unpins;
  pinning = (refl, (refl, (refl, tt)));
  putting = (refl, (refl, tt));
  flushing = (refl, (refl, (refl, (refl, tt))));
  unpinning = (refl, tt);
  until = refl;
  scans = refl;
  behind = refl;
}

second_round : IsRound 0 second.0
second_round = record {
  guard = 0;
  pins = pins;
  flushes = scans ++ Stepped ∷ CalledReply 0 Ran ∷ none_found;
  unpins = unpins;
  flushed = Done UnitAnswer;
  pinning = (refl, (refl, (refl, tt)));
  flushing = (refl, (refl, (refl, (refl, (refl, (refl, tt))))));
  unpinning = (refl, tt);
  ended = refl;
  whole = refl;
}

third_round : IsRound 0 third.0
third_round = record {
  guard = 0;
  pins = pins;
  flushes = scans ++ none_found;
  unpins = unpins;
  flushed = Done UnitAnswer;
  pinning = (refl, (refl, (refl, tt)));
  flushing = (refl, (refl, (refl, (refl, tt))));
  unpinning = (refl, tt);
  ended = refl;
  whole = refl;
}

quiet : IsQuiet 0 held
quiet = record { unpinned = refl; idle = refl; others = others }
  where
    others : (q e : ℕ) → q ≢ 0 → position_word held q ≢ Pinned e
    others zero e ne same = ne refl
    others (suc q) e ne same = cc (same)

abbrev Met : Type 0
Met = (fresh s put new : State) × (p : ℕ) × (earlier before after others : List Entry)
    × MeetsRounds fresh s put new p earlier before after others

others : Runs over (second.0 ++ third.0) last
others = runs_append over emptied last second.0 third.0 second.1 third.1

-- some run of a new world meets the premises of the law of rounds, and its rounds have a job to call
pub some_run : Met
some_run = (
  first,
  held,
  put,
  last,
  0,
  begins.0,
  puts.0,
  ends.0,
  second.0 ++ third.0,
  record {
    is_fresh = first_fresh;
    leads = begins.1;
    quiet = quiet;
    epochs = omega arith;
    round = first_round;
    done = refl;
    first = put_first;
    reaches = puts.1;
    job = refl;
    rounds = (second.0, third.0, second_round, (third.0, [], third_round, refl, refl), refl);
    goes_on = runs_append put over last ends.0 (second.0 ++ third.0) ends.1 others;
  },
)
