-- The path of a call, without what its accesses do.
use Rattle.std.proofs.Common.{◌≡◌, ◌∙◌, ◌⊎◌, inl, inr, ◌≤◌, List, [], ◌∷◌, length, Option, ap, refl, sym, subst}
use Rattle.std.proofs.Common.{arith}
use Rattle.epoch_cells.specs.declared.fault.Fault.{Fault}
use Rattle.epoch_laws.specs.declared.heap.access.Access.{Access}
use Rattle.epoch_laws.specs.declared.step.Reply.{Reply}
use Rattle.epoch_laws.specs.declared.step.Reply.TheVariants.{Done, Refused}
use Rattle.epoch_structure_laws.specs.Plans.{Deed, Flushes, Touches, Defers, Answers, after_by}
use Rattle.epoch_structure_calls.specs.Paths.{PerformsBy, GoesTo, DoesBy}
use Rattle.epoch_lend.specs.declared.array.cells.SlotTurn.{SlotTurn}
use Rattle.epoch_lend_nodes.specs.Gathering.{MakesRoomFor, gathering, gathers}
use Rattle.epoch_lend_nodes.specs.Taking.{TakesPath}

abbrev pub anything : Unit {0} → Access → Reply → Unit {0} → Type 0
anything links access reply links' = Unit {0}

module _ {P A L H : Type 0} (does : L → Access → Reply → L → Type 0) (spots : H → List SlotTurn) (deed : P → Deed P A)
  where
    performs_only : (d : Deed P A) (old new : H) (l l' : L) (reply : Reply)
        → PerformsBy does (gathers spots) d old l reply new l'
        → PerformsBy anything gathering d (spots old) tt reply (spots new) tt
    performs_only (Flushes done refused) old new l l' reply p = (p.0, refl)
    performs_only (Touches access told refused) old new l l' reply p = (tt, p.1, ap spots p.2)
    performs_only (Defers name deferred refused) old new l l' reply p = (p.0, refl)
    performs_only (Answers answer) old new l l' reply p = absurd p

    goes_only : (replies : List Reply) (phase last : P) (old new : H) (l l' : L)
        → GoesTo does (gathers spots) deed replies phase old l last new l'
        → GoesTo anything gathering deed replies phase (spots old) tt last (spots new) tt
    goes_only [] phase last old new l l' goes = (goes.0, ap spots goes.1, refl)
    goes_only (reply ∷ replies) phase last old new l l' goes = (
      spots goes.0,
      tt,
      performs_only (deed phase) old goes.0 l goes.1 reply goes.2,
      goes_only replies (after_by phase (deed phase) reply) last goes.0 new goes.1 l' goes.3,
    )

    -- what a call did is a path
    pub takes_path : (first : P) (old new : H) (l l' : L) (answer : A) (refused : Option Fault)
        → DoesBy does (gathers spots) deed first old l answer refused new l'
        → TakesPath (spots old) deed first answer refused (spots new)
    takes_path first old new l l' answer refused did = record {
      replies = did.replies;
      last = did.last;
      goes = goes_only did.replies first did.last old new l l' did.goes;
      answers = did.answers;
      newest = did.newest;
    }

-- the phase asks for room
abbrev pub AsksForRoom : {P A : Type 0} → Deed P A → Type 0
AsksForRoom (Flushes done refused) = Unit {0}
AsksForRoom deed = ⊥

-- Room is made from what stayed, or from nothing once that was handed over. Nothing is never refused room.
room_from : (reply : Reply) (old mid new : List SlotTurn) → (mid ≡ old) ⊎ (mid ≡ []) → MakesRoomFor mid reply new
    → MakesRoomFor old reply new
room_from reply old mid new (inl same) made = subst (λ s. MakesRoomFor s reply new) same made
room_from (Done answer) old mid new (inr none) (inl same) = inr (same ∙ none)
room_from (Done answer) old mid new (inr none) (inr empty) = inr empty
room_from (Refused fault) old mid new (inr none) made =
    let full : 64 ≤ 0 = subst (λ s. 64 ≤ length s) none made.2 in absurd (omega (arith, full))
room_from reply old mid new (inr none) made = absurd made

-- what is so of a choice, without the second half of its second way
pub or_first : {A B C : Type 0} → A ⊎ (B × C) → A ⊎ B
or_first (inl a) = inl a
or_first (inr both) = inr both.0

module _ {P A : Type 0} (deed : P → Deed P A) (mid old : List SlotTurn) (same : (mid ≡ old) ⊎ (mid ≡ [])) where
  performs_from : (d : Deed P A) (new : List SlotTurn) (reply : Reply) → AsksForRoom d
      → PerformsBy anything gathering d mid tt reply new tt → PerformsBy anything gathering d old tt reply new tt
  performs_from (Flushes done refused) new reply asks p = (room_from reply old mid new same p.0, refl)
  performs_from (Touches access told refused) new reply asks p = absurd asks
  performs_from (Defers name deferred refused) new reply asks p = absurd asks
  performs_from (Answers answer) new reply asks p = absurd asks

  goes_from : (replies : List Reply) (first last : P) (new : List SlotTurn) (answer : A) → AsksForRoom (deed first)
      → deed last ≡ Answers answer → GoesTo anything gathering deed replies first mid tt last new tt
      → GoesTo anything gathering deed replies first old tt last new tt
  goes_from [] first last new answer asks answers goes =
      absurd (subst (λ d. AsksForRoom d) answers (subst (λ p. AsksForRoom (deed p)) (sym goes.0) asks))
  goes_from (reply ∷ replies) first last new answer asks answers goes = (
    goes.0,
    goes.1,
    performs_from (deed first) goes.0 reply asks goes.2,
    goes.3,
  )

  -- A call that makes room first takes the same path from any list of spots, if that is as it was, or was handed over
  -- before the call.
  pub path_from : (first : P) (new : List SlotTurn) (answer : A) (refused : Option Fault) → AsksForRoom (deed first)
      → TakesPath mid deed first answer refused new → TakesPath old deed first answer refused new
  path_from first new answer refused asks did = record {
    replies = did.replies;
    last = did.last;
    goes = goes_from did.replies first did.last new answer asks did.answers did.goes;
    answers = did.answers;
    newest = did.newest;
  }
