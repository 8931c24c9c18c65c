-- Paths that grow, and paths on which a call only reads, as parts of the path of a whole call.
use Rattle.std.proofs.Common.{◌≡◌, ◌∙◌, ℕ, ◌<◌, ◌≤◌, List, [], ◌∷◌, ◌++◌, Option, Some, refl, sym, ap, subst}
use Rattle.std.proofs.Common.{arith}
use Rattle.epoch_cells.specs.declared.fault.Fault.{Fault}
use Rattle.epoch_laws.specs.declared.heap.access.Access.{Access}
use Rattle.epoch_laws.specs.declared.heap.access.Access.TheVariants.{Place, Read, Leave, Point}
use Rattle.epoch_laws.specs.declared.heap.access.Change.TheVariants.{Load}
use Rattle.epoch_laws.specs.declared.step.Reply.{Reply}
use Rattle.epoch_laws.specs.declared.step.Reply.TheVariants.{Done}
use Rattle.epoch_structure_laws.specs.Asks.{wish_of}
use Rattle.epoch_structure_laws.specs.Plans.{Deed, Flushes, Touches, Defers, Answers, IsOver, after_by}
use Rattle.epoch_structure_calls.specs.Paths.{IsTold, fault_after, newest_fault}
use Rattle.epoch_structure_calls.specs.Paths.{Keeping, PerformsBy, GoesTo, ReadsBy, ReadsTo, read_only, reading_of}

-- the newest fault of replies, of which one more is heard
pub newest_after : (before : Option Fault) (replies : List Reply) (reply : Reply)
    → newest_fault before (replies ++ reply ∷ []) ≡ fault_after (newest_fault before replies) reply
newest_after before [] reply = refl
newest_after before (first ∷ replies) reply = newest_after (fault_after before first) replies reply

-- an access that only reads was made, whichever name it has
reads_by : {L : Type 0} (does : L → Access → Reply → L → Type 0) (asked access : Access) (links links' : L)
    (reply : Reply) → read_only asked ≡ Some asked → asked ≡ access → does links access reply links'
    → IsTold access reply
    → (read_only asked ≡ Some asked) × does links asked reply links' × IsTold asked reply
reads_by does asked access links links' reply reads same made answers = (
  reads,
  subst (λ (z : Access). does links z reply links') (sym same) made,
  subst (λ (z : Access). IsTold z reply) (sym same) answers,
)

module _ {P A L : Type 0} (does : L → Access → Reply → L → Type 0) where
  -- READING ON

  -- a path on which a call only reads goes on by one access
  pub reads_further : (deed : P → Deed P A) (replies : List Reply) (reply : Reply) (first phase : P)
      (links l links' : L)
      → ReadsTo does deed replies first links phase l → ReadsBy does (deed phase) l reply links'
      → ReadsTo does deed (replies ++ reply ∷ []) first links (after_by phase (deed phase) reply) links'
  reads_further deed [] reply first phase links l links' reads last =
      let at_first = subst (λ (f : P). ReadsBy does (deed f) l reply links') reads.0 last in
      let on_links = subst (λ (z : L). ReadsBy does (deed first) z reply links') reads.1 at_first in
      (links', on_links, (ap (λ (f : P). after_by f (deed f) reply) reads.0, refl))
  reads_further deed (next ∷ replies) reply first phase links l links' reads last = (
    reads.0,
    reads.1,
    reads_further deed replies reply (after_by first (deed first) next) phase reads.0 l links' reads.2 last,
  )

  -- and by another such path
  pub reads_then : (deed : P → Deed P A) (replies next : List Reply) (first mid phase : P) (links l links' : L)
      → ReadsTo does deed replies first links mid l → ReadsTo does deed next mid l phase links'
      → ReadsTo does deed (replies ++ next) first links phase links'
  reads_then deed [] next first mid phase links l links' reads on =
      let at_first = subst (λ (f : P). ReadsTo does deed next f l phase links') reads.0 on in
      subst (λ (z : L). ReadsTo does deed next first z phase links') reads.1 at_first
  reads_then deed (reply ∷ replies) next first mid phase links l links' reads on = (
    reads.0,
    reads.1,
    reads_then deed replies next (after_by first (deed first) reply) mid phase reads.0 l links' reads.2 on,
  )

  -- the access that a phase asks for was made, where it only reads
  pub reads_access : (deed : Deed P A) (access : Access) (links links' : L) (reply : Reply)
      → reading_of (wish_of deed) ≡ Some access → does links access reply links' → IsTold access reply
      → ReadsBy does deed links reply links'
  reads_access (Touches (Read guard ptr) told refused) access links links' reply is made answers =
      let same : Read guard ptr ≡ access = cc in
      reads_by does (Read guard ptr) access links links' reply refl same made answers
  reads_access (Touches (Leave ptr) told refused) access links links' reply is made answers =
      let same : Leave ptr ≡ access = cc in
      reads_by does (Leave ptr) access links links' reply refl same made answers
  reads_access (Touches (Point guard spot Load) told refused) access links links' reply is made answers =
      let same : Point guard spot Load ≡ access = cc in
      reads_by does (Point guard spot Load) access links links' reply refl same made answers
  reads_access deed access links links' reply is made answers = cc

  -- WHOLE CALLS

  module _ {H : Type 0} (keeping : Keeping H) where
    -- the path of a call goes on by one call
    pub goes_further : (deed : P → Deed P A) (replies : List Reply) (reply : Reply) (first phase : P)
        (old h new : H) (links l links' : L)
        → GoesTo does keeping deed replies first old links phase h l
        → PerformsBy does keeping (deed phase) h l reply new links'
        → GoesTo does keeping deed (replies ++ reply ∷ []) first old links (after_by phase (deed phase) reply) new
        links'
    goes_further deed [] reply first phase old h new links l links' goes performs =
        let at_first = subst (λ (f : P). PerformsBy does keeping (deed f) h l reply new links') goes.0 performs in
        let by_old = subst (λ (z : H). PerformsBy does keeping (deed first) z l reply new links') goes.1 at_first in
        let on_links =
        subst (λ (z : L). PerformsBy does keeping (deed first) old z reply new links') goes.2 by_old in
        (new, links', on_links, (ap (λ (f : P). after_by f (deed f) reply) goes.0, refl, refl))
    goes_further deed (next ∷ replies) reply first phase old h new links l links' goes performs = (
      goes.0,
      goes.1,
      goes.2,
      goes_further deed replies reply (after_by first (deed first) next) phase goes.0 h new goes.1 l links' goes.3
          performs,
    )

    -- an access that only reads is a call on cells and pointers
    read_performs : (deed : Deed P A) (h : H) (links links' : L) (reply : Reply) → ReadsBy does deed links reply links'
        → PerformsBy does keeping deed h links reply h links'
    read_performs (Touches access told refused) h links links' reply reads = (reads.1, reads.2, refl)
    read_performs (Flushes done refused) h links links' reply reads = absurd reads
    read_performs (Defers name deferred refused) h links links' reply reads = absurd reads
    read_performs (Answers answer) h links links' reply reads = absurd reads

    -- and by a path on which it only reads
    pub goes_reading : (deed : P → Deed P A) (replies next : List Reply) (first mid phase : P) (old h : H)
        (links l links' : L)
        → GoesTo does keeping deed replies first old links mid h l → ReadsTo does deed next mid l phase links'
        → GoesTo does keeping deed (replies ++ next) first old links phase h links'
    goes_reading deed [] [] first mid phase old h links l links' goes reads =
        (reads.0 ∙ goes.0, goes.1, reads.1 ∙ goes.2)
    goes_reading deed [] (reply ∷ next) first mid phase old h links l links' goes reads =
        let at_first = subst (λ (f : P). ReadsTo does deed (reply ∷ next) f l phase links') goes.0 reads in
        let on_links = subst (λ (z : L). ReadsTo does deed (reply ∷ next) first z phase links') goes.2 at_first in
        let from_old : GoesTo does keeping deed (reply ∷ next) first old links phase old links' = (
          old,
          on_links.0,
          read_performs (deed first) old links on_links.0 reply on_links.1,
          goes_reading deed [] next (after_by first (deed first) reply) (after_by first (deed first) reply) phase old
              old on_links.0 on_links.0 links' (refl, refl, refl) on_links.2,
        ) in
        subst (λ (z : H). GoesTo does keeping deed (reply ∷ next) first old links phase z links') (sym goes.1) from_old
    goes_reading deed (reply ∷ replies) next first mid phase old h links l links' goes reads = (
      goes.0,
      goes.1,
      goes.2,
      goes_reading deed replies next (after_by first (deed first) reply) mid phase goes.0 h goes.1 l links' goes.3
          reads,
    )

    -- a path ends where nothing more was done
    pub goes_still : (deed : P → Deed P A) (replies : List Reply) (first phase : P) (old h new : H) (links l links' : L)
        → GoesTo does keeping deed replies first old links phase h l → new ≡ h → links' ≡ l
        → GoesTo does keeping deed replies first old links phase new links'
    goes_still deed replies first phase old h new links l links' goes same still =
        let on_links = subst (λ (z : L). GoesTo does keeping deed replies first old links phase h z) (sym still) goes in
        subst (λ (z : H). GoesTo does keeping deed replies first old links phase z links') (sym same) on_links

  -- REPLIES

  -- nothing is refused on a path on which a call only reads
  one_reads : (deed : Deed P A) (links links' : L) (reply : Reply) (before : Option Fault)
      → ReadsBy does deed links reply links' → fault_after before reply ≡ before
  one_reads (Touches (Place value) told refused) links links' reply before reads = cc
  one_reads (Touches access told refused) links links' (Done answer) before reads = refl
  one_reads (Touches access told refused) links links' reply before reads = absurd reads.2
  one_reads deed links links' reply before reads = absurd reads

  pub reads_refuse_nothing : (deed : P → Deed P A) (replies : List Reply) (first phase : P) (links links' : L)
      (before : Option Fault) → ReadsTo does deed replies first links phase links'
      → newest_fault before replies ≡ before
  reads_refuse_nothing deed [] first phase links links' before reads = refl
  reads_refuse_nothing deed (reply ∷ replies) first phase links links' before reads =
      let same = one_reads (deed first) links reads.0 reply before reads.1 in
      ap (λ b. newest_fault b replies) same
      ∙ reads_refuse_nothing deed replies (after_by first (deed first) reply) phase reads.0 links' before reads.2

  pub reads_refuse_more : (deed : P → Deed P A) (replies next : List Reply) (first phase : P) (links links' : L)
      (before : Option Fault) → ReadsTo does deed next first links phase links'
      → newest_fault before (replies ++ next) ≡ newest_fault before replies
  reads_refuse_more deed [] next first phase links links' before reads =
      reads_refuse_nothing deed next first phase links links' before reads
  reads_refuse_more deed (reply ∷ replies) next first phase links links' before reads =
      reads_refuse_more deed replies next first phase links links' (fault_after before reply) reads

  -- ENDING

  -- a deed that reads is no answer
  pub reading_goes_on : (deed : Deed P A) (links links' : L) (reply : Reply) → ReadsBy does deed links reply links'
      → ¬ IsOver deed
  reading_goes_on (Touches access told refused) links links' reply reads = λ over. over
  reading_goes_on (Flushes done refused) links links' reply reads = absurd reads
  reading_goes_on (Defers name deferred refused) links links' reply reads = absurd reads
  reading_goes_on (Answers answer) links links' reply reads = absurd reads

  -- nor is one of which a call was performed
  pub performing_goes_on : {H : Type 0} (keeping : Keeping H) (deed : Deed P A) (old new : H) (links links' : L)
      (reply : Reply) → PerformsBy does keeping deed old links reply new links' → ¬ IsOver deed
  performing_goes_on keeping (Touches access told refused) old new links links' reply performs = λ over. over
  performing_goes_on keeping (Flushes done refused) old new links links' reply performs = λ over. over
  performing_goes_on keeping (Defers name deferred refused) old new links links' reply performs = λ over. over
  performing_goes_on keeping (Answers answer) old new links links' reply performs = absurd performs

  -- A call that only reads makes no more calls after it than before.
  pub reading_lowers : (deed : P → Deed P A) (measure : P → ℕ) (replies : List Reply) (first phase : P)
      (links links' : L)
      → ((phase : P) (reply : Reply) → ¬ IsOver (deed phase)
      → measure (after_by phase (deed phase) reply) < measure phase)
      → ReadsTo does deed replies first links phase links' → measure phase ≤ measure first
  reading_lowers deed measure [] first phase links links' lowered reads =
      omega (arith, ap measure reads.0)
  reading_lowers deed measure (reply ∷ replies) first phase links links' lowered reads =
      let next = lowered first reply (reading_goes_on (deed first) links reads.0 reply reads.1) in
      let rest =
      reading_lowers deed measure replies (after_by first (deed first) reply) phase reads.0 links' lowered reads.2 in
      omega (arith, next, rest)
