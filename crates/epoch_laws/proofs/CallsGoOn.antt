-- A call begins, goes on by one step, and ends.
use Rattle.std.proofs.Common.{◌≡◌, ℕ, ◌<◌, false, List, [], ◌∷◌, ◌++◌, length, true, refl, ap, sym, subst, ◌∙◌, arith}
use Rattle.epoch_laws.specs.declared.step.Call.{Call}
use Rattle.epoch_laws.specs.declared.step.Entry.{Entry}
use Rattle.epoch_laws.specs.declared.step.Reply.{Reply}
use Rattle.epoch_laws.specs.declared.step.Step.TheVariants.{Begin, Go}
use Rattle.epoch_laws.specs.Run.{State, TakesStep, Runs}
use Rattle.epoch_laws.specs.Calls.{goes_of, call_entries, ends_call, AllGoOn, EndsAtLast}
use Rattle.epoch_laws.proofs.RunsGoOn.{runs_append}

goes_push : (p : ℕ) (rs : List Reply) (r : Reply)
    → goes_of p (rs ++ r ∷ []) ≡ goes_of p rs ++ record { step = Go p; reply = r } ∷ []
goes_push p [] r = refl
goes_push p (x ∷ rs) r = ap (λ es. record { step = Go p; reply = x } ∷ es) (goes_push p rs r)

call_push : (p : ℕ) (c : Call) (rs : List Reply) (r : Reply)
    → 0 < length rs → call_entries p c (rs ++ r ∷ []) ≡ call_entries p c rs ++ record { step = Go p; reply = r } ∷ []
call_push p c [] r some = absurd (omega arith)
call_push p c (x ∷ rs) r some = ap (λ es. record { step = Begin p c; reply = x } ∷ es) (goes_push p rs r)

-- the run of a call goes on
pub call_more : (s t u : State) (p : ℕ) (c : Call) (rs later : List Reply) (r : Reply)
    → 0 < length rs → later ≡ rs ++ r ∷ []
    → Runs s (call_entries p c rs) t → TakesStep t (Go p) r u → Runs s (call_entries p c later) u
call_more s t u p c rs later r some more run did =
    let same : call_entries p c later ≡ call_entries p c rs ++ record { step = Go p; reply = r } ∷ [] =
    ap (call_entries p c) more ∙ call_push p c rs r some in
    subst (λ (es : List Entry). Runs s es u) (sym same) (runs_append s t u (call_entries p c rs) _ run (u, did, refl))

-- the first reply is alone
pub one_alone : (none rs : List Reply) (r : Reply) → none ≡ [] → rs ≡ none ++ r ∷ [] → rs ≡ r ∷ []
one_alone none rs r empty more = more ∙ ap (λ (xs : List Reply). xs ++ r ∷ []) empty

-- the run of a call begins
pub call_begun : (s t : State) (p : ℕ) (c : Call) (rs : List Reply) (r : Reply)
    → rs ≡ r ∷ [] → TakesStep s (Begin p c) r t → Runs s (call_entries p c rs) t
call_begun s t p c rs r one did = subst (λ (xs : List Reply). Runs s (call_entries p c xs) t) (sym one) (t, did, refl)

-- none of them ends the call, and neither does one more
pub all_go_on : (rs later : List Reply) (r : Reply)
    → AllGoOn rs → ends_call r ≡ false → later ≡ rs ++ r ∷ [] → AllGoOn later
all_go_on rs later r on goes more = subst AllGoOn (sym more) (push rs on)
  where
    push : (rs : List Reply) → AllGoOn rs → AllGoOn (rs ++ r ∷ [])
    push [] on = (goes, tt)
    push (x ∷ rs) on = (on.0, push rs on.1)

-- or one more ends it
pub ends_there : (rs later : List Reply) (r : Reply)
    → AllGoOn rs → ends_call r ≡ true → later ≡ rs ++ r ∷ [] → EndsAtLast later
ends_there rs later r on ends more = subst EndsAtLast (sym more) (push rs on)
  where
    push : (rs : List Reply) → AllGoOn rs → EndsAtLast (rs ++ r ∷ [])
    push [] on = ends
    push (x ∷ []) on = (on.0, ends)
    push (x ∷ y ∷ rs) on = (on.0, push (y ∷ rs) on.1)
