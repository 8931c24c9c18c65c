-- Whole calls: a Begin, and then Go until a reply ends the call.
use Rattle.std.specs.Prelude.{◌≡◌, ℕ, Bool, true, false, List, [], ◌∷◌}
use Rattle.epoch_laws.specs.declared.step.Call.{Call}
use Rattle.epoch_laws.specs.declared.step.Entry.{Entry}
use Rattle.epoch_laws.specs.declared.step.Reply.{Reply}
use Rattle.epoch_laws.specs.declared.step.Reply.TheVariants.{Done, Refused}
use Rattle.epoch_laws.specs.declared.step.Step.TheVariants.{Begin, Go}

-- a participant goes on, once for each reply
abbrev pub goes_of : ℕ → List Reply → List Entry
goes_of p [] = []
goes_of p (r ∷ rs) = record { step = Go p; reply = r } ∷ goes_of p rs

-- it begins a call, and goes on once for each further reply
abbrev pub call_entries : ℕ → Call → List Reply → List Entry
call_entries p c [] = []
call_entries p c (r ∷ rs) = record { step = Begin p c; reply = r } ∷ goes_of p rs

abbrev pub ends_call : Reply → Bool
ends_call (Done answer) = true
ends_call (Refused fault) = true
ends_call _ = false

-- none of them ends the call
abbrev pub AllGoOn : List Reply → Type 0
AllGoOn [] = Unit {0}
AllGoOn (r ∷ rs) = (ends_call r ≡ false) × AllGoOn rs

-- the last one ends the call, and none before it does
abbrev pub EndsAtLast : List Reply → Type 0
EndsAtLast [] = ⊥
EndsAtLast (r ∷ []) = ends_call r ≡ true
EndsAtLast (r ∷ s ∷ rs) = (ends_call r ≡ false) × EndsAtLast (s ∷ rs)
