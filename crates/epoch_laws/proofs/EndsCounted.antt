-- In every run an end that is told a number has called so many jobs, and none is left.
use Rattle.std.proofs.Common.{◌≡◌, ◌≢◌, ℕ, zero, suc, ◌+◌, List, [], ◌∷◌, ◌++◌, append_assoc, append-nil, Option, Some}
use Rattle.std.proofs.Common.{None, slice_get, ◌⊎◌, inl, inr, refl, ap, sym, subst, ◌∙◌, arith}
use Rattle.std.proofs.lemmas.List.Sums.{sum_by-append}
use Rattle.epoch_machine.specs.declared.machine.Ask.{Ask}
use Rattle.epoch_machine.specs.declared.machine.Ask.TheVariants.{PutBag, TakeBag}
use Rattle.epoch_machine.specs.declared.machine.Ask.TheVariants.{CallJob}
use Rattle.epoch_machine.specs.declared.machine.Stage.{Stage}
use Rattle.epoch_laws.specs.declared.heap.access.AccessAnswer.TheVariants.{Count}
use Rattle.epoch_laws.specs.declared.step.Call.{Call}
use Rattle.epoch_laws.specs.declared.step.Entry.{Entry}
use Rattle.epoch_laws.specs.declared.step.Reply.{Reply}
use Rattle.epoch_laws.specs.declared.step.Reply.TheVariants.{Done, Refused}
use Rattle.epoch_laws.specs.declared.step.Step.{Step}
use Rattle.epoch_laws.specs.declared.step.Step.TheVariants.{Go, EndGo}
use Rattle.epoch_laws.specs.Run.{WorldSeat, State, with_places, Ending, Open, Emptying, Over}
use Rattle.epoch_laws.specs.Run.{DrivesCall, Runs, IsFresh}
use Rattle.epoch_laws.specs.Ends.{is_call_at_end, calls_at_end, TellsCount, EndsAtCount}
use Rattle.epoch_laws.proofs.StepKinds.{StepKind, Refusal, MachineStep, EndBegins, EndCalls, EndTakes, EndIsOver}
use Rattle.epoch_laws.proofs.StepKinds.{step_kind}
use Rattle.epoch_laws.proofs.TicketsOnce.{end_calls_all}

-- A MACHINE'S STEP IS NONE OF AN END

abbrev pub end_of : State → Ending
end_of s = s.ending

-- a step of a call that its machine drives leaves the collector's end as it was
pub machine_apart : (old new : State) (p : ℕ) (seat : WorldSeat) (c : Call) (s : Stage) (ask : Option Ask)
    (reply : Reply) → DrivesCall old p seat c s ask reply new → new.ending ≡ old.ending
machine_apart old new p seat c s (Some (PutBag seal)) reply did = ap end_of did.4
machine_apart old new p seat c s (Some (TakeBag x)) reply did = ap end_of did.5
machine_apart old new p seat c s (Some CallJob) reply did = ap end_of did.4
machine_apart old new p seat c s (Some _) reply did = ap end_of did.1
machine_apart old new p seat c s None reply did = ap end_of did.1

-- ONE STEP

-- an end has called so many jobs
abbrev HasCalled : Ending → ℕ → Type 0
HasCalled Open calls = calls ≡ 0
HasCalled (Emptying hand n) calls = n ≡ calls
HasCalled Over calls = Unit {0}

-- what a step does to an end
record StepsEnd (before : Ending) (step : Step) (reply : Reply) (after : Ending) : Type 0 where
  calls : (n : ℕ) → HasCalled before n → HasCalled after (n + is_call_at_end step reply)
  over : before ≡ Over → (after ≡ Over) × (is_call_at_end step reply ≡ 0)
  tells : (n k : ℕ) → HasCalled before n → step ≡ EndGo → reply ≡ Done (Count k)
      → (after ≡ Over) × (k ≡ n) × (is_call_at_end step reply ≡ 0)

-- the step is none of an end's, or is refused
apart : (before : Ending) (step : Step) (reply : Reply) → is_call_at_end step reply ≡ 0
    → ((k : ℕ) → step ≡ EndGo → reply ≢ Done (Count k)) → StepsEnd before step reply before
apart before step reply none untold = record {
  calls = λ n has. subst (HasCalled before) (omega (arith, none)) has;
  over = λ over. (over, none);
  tells = λ n k has is told. absurd (untold k is told);
}

-- what is said of an end that is known
called_at : (s : State) (e : Ending) (n : ℕ) → s.ending ≡ e → HasCalled s.ending n → HasCalled e n
called_at s e n at has = subst (λ (ending : Ending). HasCalled ending n) at has

kind_ends : (old new : State) (step : Step) (reply : Reply) → StepKind old step reply new
    → StepsEnd old.ending step reply new.ending
kind_ends old _ _ _ (Refusal step fault) = apart _ step _ (none step) (λ k is said. cc (said))
  where
    none : (s : Step) → is_call_at_end s (Refused fault) ≡ 0
    none EndGo = refl
    none _ = refl
kind_ends old _ _ _ (MachineStep p c reply new taken drive did) =
    subst (StepsEnd old.ending (Go p) reply) (sym (machine_apart old new p _ c _ _ reply did))
    (apart _ _ _ refl (λ k is. absurd (cc (is))))
kind_ends old _ _ _ (EndBegins opened free) = record {
  calls = λ n has. omega (arith, called_at old Open n opened has);
  over = λ over. absurd (cc (over, opened));
  tells = λ n k has is. absurd (cc (is));
}
kind_ends old _ _ _ (EndCalls job jobs m at) = record {
  calls = λ n has. omega (arith, called_at old (Emptying (job ∷ jobs) m) n at has);
  over = λ over. absurd (cc (over, at));
  tells = λ n k has is told. absurd (cc (told));
}
kind_ends old _ _ _ (EndTakes bag queued m at out) = record {
  calls = λ n has. omega (arith, called_at old (Emptying [] m) n at has);
  over = λ over. absurd (cc (over, at));
  tells = λ n k has is told. absurd (cc (told));
}
kind_ends old _ _ _ (EndIsOver m at none) = record {
  calls = λ n has. tt;
  over = λ over. (refl, refl);
  tells = λ n k has is told. (refl, same_count k told ∙ called_at old (Emptying [] m) n at has, refl);
}
  where
    same_count : (k : ℕ) → Done (Count m) ≡ Done (Count k) → k ≡ m
    same_count k told = cc (told)
kind_ends old _ _ _ _ = apart _ _ _ refl (λ k is. absurd (cc (is)))

-- ONE MORE ENTRY

record CountsEnd (s : State) (log : List Entry) : Type 0 where
  calls : HasCalled s.ending (calls_at_end log)
  told : (n : ℕ) → TellsCount log n → (s.ending ≡ Over) × (n ≡ calls_at_end log)

calls_push : (log : List Entry) (x : Entry)
    → calls_at_end (log ++ x ∷ []) ≡ calls_at_end log + is_call_at_end x.step x.reply
calls_push log x = sum_by-append _ log (x ∷ []) ∙ omega arith

entry_push : (log : List Entry) (x y : Entry) (i : ℕ) → slice_get (log ++ x ∷ []) i ≡ Some y
    → (slice_get log i ≡ Some y) ⊎ (x ≡ y)
entry_push [] x y zero at = inr (cc (at))
entry_push [] x y (suc i) at = absurd (cc (at))
entry_push (first ∷ log) x y zero at = inl at
entry_push (first ∷ log) x y (suc i) at = entry_push log x y i at

-- where a number is told, before the last entry or by it
told_push : (old new : State) (log : List Entry) (x : Entry)
    → CountsEnd old log → StepsEnd old.ending x.step x.reply new.ending
    → (n : ℕ) → TellsCount log n ⊎ (x ≡ record { step = EndGo; reply = Done (Count n) })
    → (new.ending ≡ Over) × (n ≡ calls_at_end (log ++ x ∷ []))
told_push old new log x h steps n (inl before) =
    let was = h.told n before in
    let still = steps.over was.0 in
    (still.0, omega (arith, was.1, still.1, calls_push log x))
told_push old new log x h steps n (inr last) =
    let step : x.step ≡ EndGo = ap (λ (e : Entry). e.step) last in
    let reply : x.reply ≡ Done (Count n) = ap (λ (e : Entry). e.reply) last in
    let now = steps.tells (calls_at_end log) n h.calls step reply in
    (now.0, omega (arith, now.1, now.2, calls_push log x))

counts_push : (old new : State) (log : List Entry) (x : Entry) → CountsEnd old log
    → StepsEnd old.ending x.step x.reply new.ending → CountsEnd new (log ++ x ∷ [])
counts_push old new log x h steps = record {
  calls = subst (HasCalled new.ending) (sym (calls_push log x)) (steps.calls (calls_at_end log) h.calls);
  told = λ n tells. told_push old new log x h steps n (by_place n tells.0 (entry_push log x _ tells.0 tells.1));
}
  where
    by_place : (n i : ℕ) → (slice_get log i ≡ Some (record { step = EndGo; reply = Done (Count n) }))
        ⊎ (x ≡ record { step = EndGo; reply = Done (Count n) })
        → TellsCount log n ⊎ (x ≡ record { step = EndGo; reply = Done (Count n) })
    by_place n i (inl before) = inl (i, before)
    by_place n i (inr last) = inr last

-- WHOLE RUNS

counts_along : (old new : State) (log entries : List Entry) → CountsEnd old log → Runs old entries new
    → CountsEnd new (log ++ entries)
counts_along old new log [] h run =
    subst (λ (at : State). CountsEnd at (log ++ [])) (sym run) (subst (CountsEnd old) (sym (append-nil log)) h)
counts_along old new log (x ∷ entries) h (mid, took, run) =
    let aside : State = with_places mid old.places old.seen old.ahead old.room in
    let next : CountsEnd mid (log ++ x ∷ []) =
    counts_push old mid log x h (kind_ends old aside x.step x.reply (step_kind old aside x.step x.reply took.0)) in
    subst (CountsEnd new) (append_assoc log (x ∷ []) entries) (counts_along mid new (log ++ x ∷ []) entries next run)

-- in every run from a new world, an end that is told a number has called so many jobs, and none is left
pub ends_at_count : (s new : State) (log : List Entry) → IsFresh s → Runs s log new → EndsAtCount log
ends_at_count s new log fresh run n tells =
    let told = (counts_along s new [] log none run).told n tells in
    record { counted = told.1; called = end_calls_all s new log fresh run told.0 }
  where
    none : CountsEnd s []
    none = record {
      calls = subst (λ (at : Ending). HasCalled at 0) (sym fresh.open_end) refl;
      told = λ n tells. absurd (cc (tells.1));
    }
