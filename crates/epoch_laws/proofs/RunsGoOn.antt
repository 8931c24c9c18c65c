-- A run goes on by one step, and by a further run.
use Rattle.std.proofs.Common.{◌≡◌, ℕ, ◌+◌, ◌<◌, ◌≤◌, List, [], ◌∷◌, ◌++◌, length, refl, ap, ap₂, sym, subst, ◌∙◌, arith}
use Rattle.std.proofs.Common.{get_or, length-take, take, take_all}
use Rattle.std.proofs.lemmas.List.{take_more}
use Rattle.epoch_laws.specs.declared.step.Step.{Step}
use Rattle.epoch_laws.specs.declared.step.Reply.{Reply}
use Rattle.epoch_laws.specs.declared.step.Entry.{Entry}
use Rattle.epoch_laws.specs.Run.{State, TakesStep, Runs, entries_of}

-- a run goes on by one step
pub runs_push : (s t u : State) (log : List Entry) (x : Entry)
    → Runs s log t → TakesStep t x.step x.reply u → Runs s (log ++ x ∷ []) u
runs_push s t u [] x run did = (u, subst (λ (o : State). TakesStep o x.step x.reply u) run did, refl)
runs_push s t u (y ∷ log) x run did = (run.0, run.1, runs_push run.0 t u log x run.2 did)

-- a run after a run is one run
pub runs_append : (s t u : State) (a b : List Entry) → Runs s a t → Runs t b u → Runs s (a ++ b) u
runs_append s t u [] b one other = subst (λ (o : State). Runs o b u) one other
runs_append s t u (x ∷ a) b one other = (one.0, one.1, runs_append one.0 t u a b one.2 other)

entries_push : (ss : List Step) (rs : List Reply) (s : Step) (r : Reply) → length ss ≡ length rs
    → entries_of (ss ++ s ∷ []) (rs ++ r ∷ []) ≡ entries_of ss rs ++ record { step = s; reply = r } ∷ []
entries_push [] [] s r e = refl
entries_push [] (y ∷ rs) s r e = absurd (omega arith)
entries_push (t ∷ ss) [] s r e = absurd (omega arith)
entries_push (t ∷ ss) (y ∷ rs) s r e =
    ap (λ es. record { step = t; reply = y } ∷ es) (entries_push ss rs s r (omega arith))

-- the run of the first i steps goes on by the next one
pub runs_more : (s t u : State) (steps : List Step) (i : ℕ) (d : Step) (replies later : List Reply) (r : Reply)
    → i < length steps → length replies ≡ i
    → later ≡ replies ++ r ∷ []
    → Runs s (entries_of (take i steps) replies) t
    → TakesStep t (get_or steps i d) r u → Runs s (entries_of (take (i + 1) steps) later) u
runs_more s t u steps i d replies later r lt count more run did =
    let same : entries_of (take (i + 1) steps) later
    ≡ entries_of (take i steps) replies ++ record { step = get_or steps i d; reply = r } ∷ [] =
    ap₂ entries_of (take_more steps i d lt) more
    ∙ entries_push (take i steps) replies (get_or steps i d) r (omega (arith, count, length-take i steps)) in
    subst (λ (es : List Entry). Runs s es u) (sym same)
    (runs_push s t u _ (record { step = get_or steps i d; reply = r }) run did)

-- the run of all steps
pub runs_whole : (s t : State) (steps : List Step) (i : ℕ) (replies : List Reply) → length steps ≤ i
    → Runs s (entries_of (take i steps) replies) t → Runs s (entries_of steps replies) t
runs_whole s t steps i replies le run =
    subst (λ (ss : List Step). Runs s (entries_of ss replies) t) (take_all i steps le) run
