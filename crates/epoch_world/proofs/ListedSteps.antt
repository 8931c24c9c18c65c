-- The steps that a world takes and writes down, and what the sharp list among them leads to.
use Rattle.std.proofs.Common.{◌≡◌, ℕ, zero, suc, ◌+◌, ◌-◌, ◌≤◌, List, [], ◌∷◌, ◌++◌, length, map, refl, ap}
use Rattle.std.proofs.Common.{sym, ◌∙◌, arith, append_assoc, append-nil}
use Rattle.std.proofs.lemmas.List.{map-append}
use Rattle.epoch_laws.specs.declared.step.Call.{Call}
use Rattle.epoch_laws.specs.declared.step.Entry.{Entry}
use Rattle.epoch_laws.specs.declared.step.Reply.{Reply}
use Rattle.epoch_laws.specs.declared.step.Step.{Step}
use Rattle.epoch_laws.specs.declared.step.Step.TheVariants.{Register, Begin, Go}
use Rattle.epoch_laws.specs.Calls.{call_entries, goes_of, EndsAtLast}
use Rattle.epoch_laws.specs.Run.{State}
use Rattle.epoch_laws.specs.Sharp.{TakesCalls, sharp_calls, both_register, TakesSharpList, LeadsToSharp}
use Rattle.epoch_laws.proofs.SharpList.{sharp, sharp_run}
use Rattle.epoch_world.specs.Listed.{ListsStep, ListsCall}

-- ONE CALL

-- so many steps of p
abbrev pub gos : ℕ → ℕ → List Step
gos p zero = []
gos p (suc n) = Go p ∷ gos p n

-- one Go more at the end
one_more : (p n : ℕ) → gos p n ++ Go p ∷ [] ≡ gos p (suc n)
one_more p zero = refl
one_more p (suc n) = ap (λ (steps : List Step). Go p ∷ steps) (one_more p n)

-- one Go more, counted from 1 on
pub gos_on : (p counter : ℕ) (start before after : List Step) → 1 ≤ counter → before ≡ start ++ gos p (counter - 1)
    → after ≡ before ++ Go p ∷ [] → after ≡ start ++ gos p (counter + 1 - 1)
gos_on p counter start before after some were are =
    let next : suc (counter - 1) ≡ counter + 1 - 1 = omega (arith, some) in
    are ∙ ap (λ (steps : List Step). steps ++ Go p ∷ []) were ∙ append_assoc start (gos p (counter - 1)) (Go p ∷ [])
    ∙ ap (λ (steps : List Step). start ++ steps) (one_more p (counter - 1) ∙ ap (gos p) next)

-- the steps of a call, after its Begin
goes_listed : (p : ℕ) (rs : List Reply) → map (λ (entry : Entry). entry.step) (goes_of p rs) ≡ gos p (length rs)
goes_listed p [] = refl
goes_listed p (r ∷ rs) = ap (λ (steps : List Step). Go p ∷ steps) (goes_listed p rs)

-- a call that ended had a reply
pub some_reply : (rs : List Reply) → EndsAtLast rs → 1 ≤ length rs
some_reply [] over = absurd over
some_reply (r ∷ rs) over = omega arith

-- the steps of a whole call
pub call_listed : (p : ℕ) (c : Call) (before begun after : List Step) (replies : List Reply) (n : ℕ)
    → EndsAtLast replies → n ≡ length replies → begun ≡ before ++ Begin p c ∷ [] → after ≡ begun ++ gos p (n - 1)
    → after ≡ before ++ map (λ (entry : Entry). entry.step) (call_entries p c replies)
call_listed p c before begun after [] n over count first are = absurd over
call_listed p c before begun after (r ∷ rs) n over count first are =
    let left : n - 1 ≡ length rs = omega (arith, count) in
    are ∙ ap (λ (steps : List Step). steps ++ gos p (n - 1)) first
    ∙ append_assoc before (Begin p c ∷ []) (gos p (n - 1))
    ∙ ap (λ (steps : List Step). before ++ Begin p c ∷ steps) (ap (gos p) left ∙ sym (goes_listed p rs))

-- THE SHARP LIST

-- so many calls, of which the steps are written down
pub record ListsCalls (old : State) (before : List Step) (calls : List (ℕ × Call)) (new : State)
    (after : List Step) : Type 0 where
  pub log : List Entry
  pub takes : TakesCalls old calls log new
  pub listed : after ≡ before ++ map (λ (entry : Entry). entry.step) log

-- no call, no step
pub lists_none : {s : State} {steps : List Step} → ListsCalls s steps [] s steps
lists_none {s} {steps} = record { log = []; takes = (refl, refl); listed = sym (append-nil steps) }

-- one call before them
pub lists_more : {old mid new : State} {before between after : List Step} {p : ℕ} {c : Call} {calls : List (ℕ × Call)}
    → ListsCall p c old before mid between → ListsCalls mid between calls new after
    → ListsCalls old before ((p, c) ∷ calls) new after
lists_more {old} {mid} {new} {before} {between} {after} {p} {c} {calls} one more = record {
  log = call_entries p c one.replies ++ more.log;
  takes = (mid, one.replies, more.log, one.ends, refl, more.takes);
  listed = more.listed
      ∙ ap (λ (steps : List Step). steps ++ map (λ (entry : Entry). entry.step) more.log) one.listed
      ∙ append_assoc before (map (λ (entry : Entry). entry.step) (call_entries p c one.replies))
      (map (λ (entry : Entry). entry.step) more.log)
      ∙ ap (λ (steps : List Step). before ++ steps)
      (sym (map-append (λ (entry : Entry). entry.step) (call_entries p c one.replies) more.log));
}

-- the registrations before the calls of the list
pub leads_to_sharp : {fresh half both new : State} {none one_step two_steps after : List Step}
    → ListsStep Register fresh none half one_step → ListsStep Register half one_step both two_steps
    → ListsCalls both two_steps sharp_calls new after → none ≡ [] → LeadsToSharp fresh after new
leads_to_sharp {fresh} {half} {both} {new} {none} {one_step} {two_steps} {after} first second calls empty = record {
  log = both_register first.reply second.reply ++ calls.log;
  listed = calls.listed ∙ ap (λ (steps : List Step). steps ++ map (λ (entry : Entry). entry.step) calls.log)
      (second.listed ∙ ap (λ (steps : List Step). steps ++ Register ∷ [])
      (first.listed ∙ ap (λ (steps : List Step). steps ++ Register ∷ []) empty));
  run = sharp_run fresh new (both_register first.reply second.reply ++ calls.log) list;
  sharp = λ is_fresh sized at_first some.
      sharp fresh new (both_register first.reply second.reply ++ calls.log) is_fresh sized at_first some list;
}
  where
    list : TakesSharpList fresh (both_register first.reply second.reply ++ calls.log) new
    list = record {
      first = first.reply;
      second = second.reply;
      both = both;
      registered = (half, first.took, (both, second.took, refl));
      later = calls.log;
      calls = calls.takes;
      whole = refl;
    }
