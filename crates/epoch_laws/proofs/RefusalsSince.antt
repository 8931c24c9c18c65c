-- What each participant whose call may yet be refused has left as it was since the call began.
use Rattle.std.proofs.Common.{if◌then◌else◌, ap, ◌≡◌, ℕ, ◌==◌, Bool, true, false, List, [], ◌∷◌, length, Some, None}
use Rattle.std.proofs.Common.{refl}
use Rattle.epoch_machine.specs.declared.machine.Action.TheVariants.{Release as ReleaseAction}
use Rattle.epoch_machine.specs.declared.machine.Stage.{Stage}
use Rattle.epoch_machine.specs.declared.machine.Stage.TheVariants.{LoadPin, StorePin, ReloadPin, LoadScan, Scan}
use Rattle.epoch_machine.specs.declared.machine.Stage.TheVariants.{Advance, Take, Calling, LoadSeal, Put, Keep}
use Rattle.epoch_machine.specs.declared.machine.Stage.TheVariants.{StoreUnpinned, StoreFree, End}
use Rattle.epoch_machine.specs.Machine.{is_empty, after_collect, after_unpin}
use Rattle.epoch_machine.proofs.StagesAfter.{either_way}
use Rattle.epoch_laws.specs.declared.heap.access.Access.{Access}
use Rattle.epoch_laws.specs.declared.heap.access.Access.TheVariants.{Place}
use Rattle.epoch_laws.specs.declared.heap.access.AccessAnswer.TheVariants.{Absent}
use Rattle.epoch_laws.specs.Heap.{null, has_steps}
use Rattle.epoch_laws.specs.declared.step.Call.{Call}
use Rattle.epoch_laws.specs.declared.step.Call.TheVariants.{Pin, Unpin, Repin, Pause, Resume, Defer, Flush, Release}
use Rattle.epoch_laws.specs.declared.step.Call.TheVariants.{DeferDestroy, Access as AccessCall}
use Rattle.epoch_laws.specs.declared.step.Deferral.{Deferral}
use Rattle.epoch_laws.specs.declared.step.Progress.{Progress}
use Rattle.epoch_laws.specs.declared.step.Progress.TheVariants.{Idle, Driven, Accesses, Ends}
use Rattle.epoch_laws.specs.declared.step.Reply.TheVariants.{Done}
use Rattle.epoch_laws.specs.declared.step.Word.TheVariants.{Unpinned}
use Rattle.epoch_laws.specs.Run.{WorldSeat, State, seat_of, begun_seat}

-- guards, the paused one, the readings and the held bag
abbrev pub KeptBag : (before after : WorldSeat) → Type 0
KeptBag before after = (after.guards ≡ before.guards) × (after.paused ≡ before.paused)
    × (after.readings ≡ before.readings) × (after.machine.held ≡ before.machine.held)

abbrev pub Kept : (before after : WorldSeat) → Type 0
Kept before after = (after.word ≡ before.word) × KeptBag before after

-- BY THE STAGE OF EACH CALL

abbrev pub DeferAt : Type 0 → Bool → Stage → Type 0
DeferAt kept full LoadSeal = kept
DeferAt kept full (Put e) = kept
DeferAt kept full Keep = full ≡ false
DeferAt kept full End = full ≡ true → kept
DeferAt kept full _ = ⊥

abbrev pub FlushAt : (kept collected : Type 0) → Bool → Stage → Type 0
FlushAt kept collected full LoadSeal = kept
FlushAt kept collected full (Put e) = kept
FlushAt kept collected full LoadScan = full ≡ true → kept
FlushAt kept collected full (Scan e k) = full ≡ true → kept
FlushAt kept collected full (Advance e) = full ≡ true → kept
FlushAt kept collected full (Take x k) = full ≡ true → kept
FlushAt kept collected full (Calling x k) = full ≡ true → kept
FlushAt kept collected full End = collected × (full ≡ true → kept)
FlushAt kept collected full _ = ⊥

abbrev pub ReleaseAt : Type 0 → Type 0 → Bool → Stage → Type 0
ReleaseAt kept off full LoadPin = kept
ReleaseAt kept off full (StorePin e) = kept
ReleaseAt kept off full ReloadPin = kept
ReleaseAt kept off full LoadScan = kept
ReleaseAt kept off full (Scan e k) = kept
ReleaseAt kept off full (Advance e) = kept
ReleaseAt kept off full (Take x k) = kept
ReleaseAt kept off full (Calling x k) = kept
ReleaseAt kept off full LoadSeal = kept
ReleaseAt kept off full (Put e) = kept
ReleaseAt kept off full StoreUnpinned = full ≡ true → kept
ReleaseAt kept off full StoreFree = Unit {0}
ReleaseAt kept off full End = (full ≡ true → kept) × off
ReleaseAt kept off full _ = ⊥

abbrev pub SinceAt : WorldSeat → (quiet collected : Type 0) → WorldSeat → Call → Stage → Type 0
SinceAt b quiet collected a (Defer g) s = DeferAt (quiet × Kept b a) a.machine.full s
SinceAt b quiet collected a (Flush g) s = FlushAt (Kept b a) collected a.machine.full s
SinceAt b quiet collected a (DeferDestroy g ptr) s = DeferAt (quiet × Kept b a) a.machine.full s
SinceAt b quiet collected a Release s = ReleaseAt (KeptBag b a) (a.word ≡ Unpinned) a.machine.full s
SinceAt b quiet collected a _ s = Unit {0}

-- a place has changed nothing but its progress
abbrev pub PlaceSince : WorldSeat → Type 0 → WorldSeat → Access → Type 0
PlaceSince b quiet a (Place v) = quiet × (b ≡ record a { progress = Idle })
PlaceSince b quiet a _ = Unit {0}

abbrev pub SinceBy : WorldSeat → (quiet collected : Type 0) → WorldSeat → Progress → Type 0
SinceBy b quiet collected a (Driven c) = SinceAt b quiet collected a c a.machine.stage
SinceBy b quiet collected a (Accesses access k found) = PlaceSince b quiet a access
SinceBy b quiet collected a _ = Unit {0}

abbrev pub Since : WorldSeat → (quiet collected : Type 0) → WorldSeat → Type 0
Since b quiet collected a = SinceBy b quiet collected a a.progress

abbrev pub AllSince : (ℕ → WorldSeat) → (quiet collected : ℕ → Type 0) → State → Type 0
AllSince before quiet collected s = (q : ℕ) → Since (before q) (quiet q) (collected q) (seat_of s q)

-- a call that is never told that the bags are full
abbrev pub is_plain : Call → Bool
is_plain (Defer g) = false
is_plain (DeferDestroy g ptr) = false
is_plain (Flush g) = false
is_plain Release = false
is_plain _ = true

-- of a call that is never told that the bags are full nothing has to hold since it began
pub plain_since : (b : WorldSeat) (quiet collected : Type 0) (a : WorldSeat) (s : Stage) (c : Call)
    → is_plain c ≡ true → SinceAt b quiet collected a c s
plain_since b quiet collected a s (Defer g) plain = absurd (cc (plain))
plain_since b quiet collected a s (DeferDestroy g ptr) plain = absurd (cc (plain))
plain_since b quiet collected a s (Flush g) plain = absurd (cc (plain))
plain_since b quiet collected a s Release plain = absurd (cc (plain))
plain_since b quiet collected a s _ plain = tt

-- QUIET STAYS

defer_more : (P Q : Type 0) (full : Bool) (s : Stage) → (P → Q) → DeferAt P full s → DeferAt Q full s
defer_more P Q full LoadSeal more at = more at
defer_more P Q full (Put e) more at = more at
defer_more P Q full Keep more at = at
defer_more P Q full End more at = λ is. more (at is)
defer_more P Q full _ more at = absurd at

flush_more : (kept C D : Type 0) (full : Bool) (s : Stage) → (C → D) → FlushAt kept C full s → FlushAt kept D full s
flush_more kept C D full LoadSeal more at = at
flush_more kept C D full (Put e) more at = at
flush_more kept C D full LoadScan more at = at
flush_more kept C D full (Scan e k) more at = at
flush_more kept C D full (Advance e) more at = at
flush_more kept C D full (Take x k) more at = at
flush_more kept C D full (Calling x k) more at = at
flush_more kept C D full End more at = (more at.0, at.1)
flush_more kept C D full _ more at = absurd at

-- what holds since a call began holds too where less is claimed of its being quiet, and of its having collected
pub since_more : (b : WorldSeat) (P Q C D : Type 0) (a : WorldSeat) → (P → Q) → (C → D) → Since b P C a → Since b Q D a
since_more b P Q C D a more got at = by_progress a.progress at
  where
    by_call : (c : Call) (s : Stage) → SinceAt b P C a c s → SinceAt b Q D a c s
    by_call (Defer g) s at =
        defer_more (P × Kept b a) (Q × Kept b a) a.machine.full s (λ both. (more both.0, both.1)) at
    by_call (DeferDestroy g ptr) s at =
        defer_more (P × Kept b a) (Q × Kept b a) a.machine.full s (λ both. (more both.0, both.1)) at
    by_call (Flush g) s at = flush_more (Kept b a) C D a.machine.full s got at
    by_call Release s at = at
    by_call _ s at = tt

    by_progress : (progress : Progress) → SinceBy b P C a progress → SinceBy b Q D a progress
    by_progress (Driven c) at = by_call c a.machine.stage at
    by_progress (Accesses (Place v) k found) at = (more at.0, at.1)
    by_progress _ at = tt

-- HOW A CALL BEGINS

deferral_since : (quiet : Type 0) (seat : WorldSeat) → quiet
    → DeferAt (quiet × Kept seat seat) false
    (if length seat.machine.held == seat.machine.sizes.bag_jobs then LoadSeal else Keep)
deferral_since quiet seat q =
    either_way (DeferAt (quiet × Kept seat seat) false) (length seat.machine.held == seat.machine.sizes.bag_jobs)
    LoadSeal Keep (q, (refl, (refl, refl, refl, refl))) refl

place_since : (quiet collected : Type 0) (seat : WorldSeat) (a : Access) (some : Bool) → seat.progress ≡ Idle → quiet
    → Since seat quiet collected (record seat { progress = if some then Accesses a 0 null else Ends (Done Absent) })
place_since quiet collected seat (Place v) true idle q =
    (q, ap (λ (progress : Progress). record seat { progress = progress }) idle)
place_since quiet collected seat _ true idle q = tt
place_since quiet collected seat a false idle q = tt

-- a call that begins at an idle seat has changed nothing yet of what it leaves if it is refused
pub begun_since : (quiet collected : Type 0) (seat : WorldSeat) (c : Call) → seat.progress ≡ Idle → quiet
    → Since seat quiet collected (begun_seat c seat)
begun_since quiet collected seat (Defer (Some g)) idle q = deferral_since quiet seat q
begun_since quiet collected seat (DeferDestroy (Some g) ptr) idle q = deferral_since quiet seat q
begun_since quiet collected seat (DeferDestroy None ptr) idle q = tt
begun_since quiet collected seat (AccessCall a) idle q = place_since quiet collected seat a (has_steps a) idle q
begun_since quiet collected seat (Flush (Some g)) idle q =
    either_way (FlushAt (Kept seat seat) collected false) (is_empty seat.machine.held)
    LoadScan LoadSeal (λ is. absurd (cc (is))) (refl, (refl, refl, refl, refl))
begun_since quiet collected seat Release idle q = (refl, refl, refl, refl)
begun_since quiet collected seat Pin idle q = tt
begun_since quiet collected seat (Resume (Some g)) idle q = tt
begun_since quiet collected seat (Unpin g) idle q = tt
begun_since quiet collected seat (Repin (Some g)) idle q = tt
begun_since quiet collected seat (Pause (Some g)) idle q = tt
begun_since quiet collected seat _ idle q = tt

-- HOW A RELEASE GOES ON

-- a release that kept its bag through its collection has it at the stage after
pub release_collected : (kept off : Type 0) (full : Bool) (held : List Deferral) → kept
    → ReleaseAt kept off full (after_collect ReleaseAction held)
release_collected kept off full [] k = λ is. k
release_collected kept off full (job ∷ jobs) k = k

-- a release whose put was full has kept its bag at its end, and is unpinned then
pub release_unpinned : (kept off : Type 0) (full : Bool) → (full ≡ true → kept) → off
    → ReleaseAt kept off full (after_unpin ReleaseAction full)
release_unpinned kept off true k o = (k, o)
release_unpinned kept off false k o = tt
