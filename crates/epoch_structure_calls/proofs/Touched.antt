-- Paths on which a call only makes accesses: how they grow, and how they begin the path of a whole call.
use Rattle.std.proofs.Common.{◌≡◌, List, [], ◌∷◌, Option, refl, sym, subst}
use Rattle.epoch_cells.specs.declared.fault.Fault.{Fault}
use Rattle.epoch_laws.specs.declared.heap.access.Access.{Access}
use Rattle.epoch_laws.specs.declared.heap.access.AccessAnswer.{AccessAnswer}
use Rattle.epoch_laws.specs.declared.step.Reply.{Reply}
use Rattle.epoch_laws.specs.declared.step.Reply.TheVariants.{Done}
use Rattle.epoch_structure_laws.specs.Plans.{Deed, Flushes, Touches, Defers, Answers, after_by}
use Rattle.epoch_structure_calls.specs.Paths.{Keeping, PerformsBy, DoesBy}
use Rattle.epoch_structure_calls.proofs.PathSteps.{path_goes_on}
use Rattle.epoch_structure_calls.specs.Touching.{TouchesBy, TouchesTo, TouchesOn}

module _ {P A L : Type 0} (does : L → Access → Reply → L → Type 0) (deed : P → Deed P A) where
  -- no access is made
  pub touches_nothing : (phase : P) (links : L) → TouchesOn does deed phase links phase links
  touches_nothing phase links = ([], (refl, refl))

  -- one access is made, and the path goes on from the phase that follows
  pub touches_first : (phase mid last : P) (answer : AccessAnswer) (links between links' : L)
      → TouchesBy does (deed phase) links answer between
      → after_by phase (deed phase) (Done answer) ≡ mid
      → TouchesOn does deed mid between last links'
      → TouchesOn does deed phase links last links'
  touches_first phase mid last answer links between links' touches is path = (
    answer ∷ path.0,
    (between, touches, subst (λ (f : P). TouchesTo does deed path.0 f between last links') (sym is) path.1),
  )

  -- one access is made, and no other one
  pub touches_once : (phase last : P) (answer : AccessAnswer) (links links' : L)
      → TouchesBy does (deed phase) links answer links' → after_by phase (deed phase) (Done answer) ≡ last
      → TouchesOn does deed phase links last links'
  touches_once phase last answer links links' touches is =
      touches_first phase last last answer links links' links' touches is (touches_nothing last links')

  -- one path after the other
  touches_then : (answers : List AccessAnswer) (first mid last : P) (links between links' : L)
      → TouchesTo does deed answers first links mid between → TouchesOn does deed mid between last links'
      → TouchesOn does deed first links last links'
  touches_then [] first mid last links between links' here path =
      let at_first = subst (λ (f : P). TouchesOn does deed f between last links') here.0 path in
      subst (λ (z : L). TouchesOn does deed first z last links') here.1 at_first
  touches_then (answer ∷ answers) first mid last links between links' here path =
      touches_first first (after_by first (deed first) (Done answer)) last answer links here.0 links' here.1 refl
      (touches_then answers (after_by first (deed first) (Done answer)) mid last here.0 between links' here.2 path)

  pub touches_further : (first mid last : P) (links between links' : L)
      → TouchesOn does deed first links mid between → TouchesOn does deed mid between last links'
      → TouchesOn does deed first links last links'
  touches_further first mid last links between links' here path =
      touches_then here.0 first mid last links between links' here.1 path

  module _ {H : Type 0} (keeping : Keeping H) where
    -- an access that is made is a call of the phase
    touch_performs : (at : Deed P A) (h : H) (links links' : L) (answer : AccessAnswer)
        → TouchesBy does at links answer links' → PerformsBy does keeping at h links (Done answer) h links'
    touch_performs (Touches access told refused) h links links' answer touches = (touches, tt, refl)
    touch_performs (Flushes done refused) h links links' answer touches = absurd touches
    touch_performs (Defers name deferred refused) h links links' answer touches = absurd touches
    touch_performs (Answers given) h links links' answer touches = absurd touches

    -- a whole call begins by accesses
    begins_by : (answers : List AccessAnswer) (first mid : P) (old new : H) (links between links' : L) (a : A)
        (refused : Option Fault) → TouchesTo does deed answers first links mid between
        → DoesBy does keeping deed mid old between a refused new links'
        → DoesBy does keeping deed first old links a refused new links'
    begins_by [] first mid old new links between links' a refused here path =
        let at_first =
        subst (λ (f : P). DoesBy does keeping deed f old between a refused new links') here.0 path in
        subst (λ (z : L). DoesBy does keeping deed first old z a refused new links') here.1 at_first
    begins_by (answer ∷ answers) first mid old new links between links' a refused here path =
        path_goes_on does keeping deed first answer old old new links here.0 links' a refused
        (touch_performs (deed first) old links here.0 answer here.1)
        (begins_by answers (after_by first (deed first) (Done answer)) mid old new here.0 between links' a refused
        here.2 path)

    pub begins_touching : (first mid : P) (old new : H) (links between links' : L) (a : A) (refused : Option Fault)
        → TouchesOn does deed first links mid between
        → DoesBy does keeping deed mid old between a refused new links'
        → DoesBy does keeping deed first old links a refused new links'
    begins_touching first mid old new links between links' a refused here path =
        begins_by here.0 first mid old new links between links' a refused here.1 path
