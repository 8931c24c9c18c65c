-- Every step shows what reach needs: of each participant's word and guards, and of the fields.
use Rattle.std.proofs.Common.{◌≡◌, ◌≢◌, ℕ, ◌<◌, true, List, length, Option, ◌⊎◌, inl, inr, refl}
use Rattle.std.proofs.Common.{ap, sym, subst, subst₂, ◌∙◌, slice_set, slice_index_or}
use Rattle.epoch_cells.specs.declared.cells.name.Name.{Name}
use Rattle.epoch_machine.specs.declared.machine.Sizes.{Sizes}
use Rattle.epoch_machine.specs.declared.machine.Stage.{Stage}
use Rattle.epoch_machine.specs.declared.machine.Stage.TheVariants.{Idle as Resting, StorePin}
use Rattle.epoch_machine.specs.declared.machine.Stage.TheVariants.{Take, Calling}
use Rattle.epoch_machine.specs.declared.machine.Stage.TheVariants.{Put, Keep, StoreRepin}
use Rattle.epoch_machine.specs.declared.machine.Stage.TheVariants.{StoreUnpinned, StoreFree, End}
use Rattle.epoch_machine.specs.declared.machine.Answer.TheVariants.{Stored}
use Rattle.epoch_machine.specs.Machine.{Machine, ask_at, hears}
use Rattle.epoch_laws.specs.declared.heap.access.Access.{Access}
use Rattle.epoch_laws.specs.declared.step.Call.{Call}
use Rattle.epoch_laws.specs.declared.step.Deferral.{Deferral}
use Rattle.epoch_laws.specs.declared.step.Entry.{Entry}
use Rattle.epoch_laws.specs.declared.step.Progress.{Progress}
use Rattle.epoch_laws.specs.declared.step.Progress.TheVariants.{Driven, Accesses, Ends}
use Rattle.epoch_laws.specs.declared.heap.access.Ptr.{Ptr}
use Rattle.epoch_laws.specs.declared.step.Reply.{Reply}
use Rattle.epoch_laws.specs.declared.step.Reply.TheVariants.{Registered, Stepped, Pinned as PinnedReply}
use Rattle.epoch_laws.specs.declared.step.Reply.TheVariants.{Unpinned as UnpinnedReply, Repinned, Deferred}
use Rattle.epoch_laws.specs.declared.heap.access.Spot.{Spot}
use Rattle.epoch_laws.specs.declared.heap.access.Spot.TheVariants.{Field}
use Rattle.epoch_laws.specs.declared.step.Step.{Step}
use Rattle.epoch_laws.specs.declared.step.Step.TheVariants.{Begin, Go}
use Rattle.epoch_laws.specs.declared.step.Word.{Word}
use Rattle.epoch_laws.specs.declared.step.Word.TheVariants.{Free, Unpinned, Pinned}
use Rattle.epoch_laws.specs.Heap.{Heap, pointer_at, Touched, Touches}
use Rattle.epoch_laws.specs.Reach.{Leads, IsReachable, Points, Past, LetsGo, IsFrozen}
use Rattle.epoch_laws.specs.Run.{WorldSeat, State, seat_of, position_word, with_seat}
use Rattle.epoch_laws.specs.Run.{with_places, with_machine, with_word, free_seat, begun_seat}
use Rattle.epoch_laws.specs.Run.{accessed_seat, ended_seat, DrivesCall, Moves}
use Rattle.epoch_laws.proofs.StepKinds.{StepKind, Refusal, Registration, CallBegins, MachineStep, JobStep, CellsStep}
use Rattle.epoch_laws.proofs.StepKinds.{LastReply, EndBegins, EndCalls, EndTakes, EndIsOver, step_kind}
use Rattle.epoch_laws.proofs.SeatLemmas.{seat_written, seat_other, seat_there, same_or_other}
use Rattle.epoch_laws.proofs.SeatLinks.{AllLinked, follows_at, IsDriven}
use Rattle.epoch_laws.proofs.Log.{IsPublish, IsWithdrawal}
use Rattle.epoch_laws.proofs.QuietReplies.{IsPlain, IsQuiet, plain_called, quiet_stepped, quiet_began, quiet_now}
use Rattle.epoch_laws.proofs.QuietReplies.{quiet_access, quiet_done, quiet_refused, quiet_end}
use Rattle.epoch_laws.proofs.SeatsFine.{is_pinned, IsFine}
use Rattle.epoch_laws.proofs.WorldHolds.{Holds, view_of}
use Rattle.epoch_laws.proofs.PointerSteps.{Fewer, fewer_same, still_reached}
use Rattle.epoch_laws.proofs.PointersChanged.{fewer_job, touches_pointers}
use Rattle.epoch_laws.proofs.ReachKept.{GivesUp, IsOut, GuardsAccess, Guarded, KeepsReach}
use Rattle.epoch_laws.proofs.GuardsStay.{is_out_ended, ends_guarded, word_ended, guarded_ended, word_begun}
use Rattle.epoch_laws.proofs.GuardsStay.{is_out_begun, guarded_begun, is_out_accessed, guarded_accessed}

-- FIELDS

-- a field of a name that was in reach once leads only where it led, or the name is in reach
abbrev FieldsStay : Past → Heap → Heap → Type 0
FieldsStay past old new = (y : Name) (f : ℕ) (z : Name) → past.reached y → Leads new (Field y f) z
    → ¬ (¬ (Leads old (Field y f) z ⊎ IsReachable new y))

stay_fewer : (past : Past) (old new : Heap) → Fewer old new → FieldsStay past old new
stay_fewer past old new fewer y f z was leads never = never (inl (fewer (Field y f) z leads))

stay_pointed : (past : Past) (old new : State) (x : Entry) (p : ℕ) (g : Option ℕ) (spot : Spot)
    → IsFrozen past old x new
    → Points old x p g spot → ((other : Spot) → other ≢ spot → pointer_at new.heap other ≡ pointer_at old.heap other)
    → FieldsStay past old.heap new.heap
stay_pointed past old new x p g spot frozen points others y f z was leads never = not_other (λ e. same e)
  where
    not_other : ¬ (Field y f ≢ spot)
    not_other ne = never (inl (leads.0, sym (others (Field y f) ne) ∙ leads.1, leads.2))

    same : Field y f ≡ spot → ⊥
    same e = frozen p g y f (subst (Points old x p g) (sym e) points)
        (λ eq. never (inl (leads.0, eq ∙ leads.1, leads.2))) was
        (λ r. still_reached old.heap new.heap y f (λ other ne. others other (λ e'. ne (e' ∙ sym e))) y r
        (λ there. elim there [ inl a ↦ never (inr a) | inr a ↦ never (inr a) ]))

-- REPLIES

-- the reply neither publishes nor withdraws
record IsSilent (r : Reply) : Type 0 where
  published : (q : ℕ) → ¬ (IsPublish r q)
  withdrawn : (q : ℕ) → ¬ (IsWithdrawal r q)

plain_silent : (r : Reply) → IsPlain r → IsSilent r
plain_silent r plain = record { published = plain.published; withdrawn = plain.withdrawn }

silent : (r : Reply) → IsQuiet r → IsSilent r
silent r quiet = plain_silent r quiet.plain

silent_by : (r told : Reply) → r ≡ told → ((q : ℕ) → told ≢ PinnedReply q) → ((q : ℕ) → told ≢ Repinned q)
    → ((q : ℕ) → told ≢ UnpinnedReply q) → IsSilent r
silent_by r told e a b c = record {
  published = λ q h. elim h [ inl is ↦ a q (sym e ∙ is) | inr is ↦ b q (sym e ∙ is) ];
  withdrawn = λ q h. elim h [ inl is ↦ c q (sym e ∙ is) | inr is ↦ b q (sym e ∙ is) ];
}

silent_deferred : (r : Reply) (t : ℕ) → r ≡ Deferred t → IsSilent r
silent_deferred r t e = silent_by r (Deferred t) e (λ q h. cc) (λ q h. cc) (λ q h. cc)

silent_registered : (r : Reply) (p : ℕ) → r ≡ Registered p → IsSilent r
silent_registered r p e = silent_by r (Registered p) e (λ q h. cc) (λ q h. cc) (λ q h. cc)

-- ONE STEP, BY WHAT IT DOES TO THE SEATS

-- what p has to show of a guard that is out
abbrev StillOut : Entry → ℕ → ℕ → WorldSeat → Type 0
StillOut x p g seat = (is_pinned seat.word ≡ true) × IsOut g seat × (¬ (IsPublish x.reply p))

module _ (past : Past) (old new : State) (x : Entry) where
  -- the state after the step, but for the places
  abbrev aside : State
  aside = with_places new old.places old.seen old.ahead old.room

  abbrev Kept : Type 0
  Kept = KeepsReach past old new x

  abbrev Fields : Type 0
  Fields = FieldsStay past old.heap new.heap

  heap_stays : (last : State) → aside ≡ last → last.heap ≡ old.heap → Fields
  heap_stays last e same =
      stay_fewer past old.heap new.heap (fewer_same old.heap new.heap (ap (λ (s : State). s.heap) e ∙ same))

  fewer_fields : (last : State) → aside ≡ last → Fewer old.heap last.heap → Fields
  fewer_fields last e fewer =
      stay_fewer past old.heap new.heap (subst (Fewer old.heap) (sym (ap (λ (s : State). s.heap) e)) fewer)

  -- no seat changes
  unchanged : (last : State) → aside ≡ last → last.sizes ≡ old.sizes → last.seats ≡ old.seats → IsSilent x.reply
      → Fields → Kept
  unchanged last e sizes seats quiet fields = record {
    pinned = λ q pin. inr (ap (λ (seat : WorldSeat). is_pinned seat.word) (sym (at q)) ∙ pin, quiet.withdrawn q);
    holding = λ q g pin out kept.
        subst (λ (seat : WorldSeat). StillOut x q g seat) (sym (at q)) (pin, out, quiet.published q);
    guarded = λ q guarded. subst Guarded (sym (at q)) guarded;
    fields = fields;
  }
    where
      at : (q : ℕ) → seat_of new q ≡ seat_of old q
      at q = ap (λ (s : State). seat_of s q) e
          ∙ ap (λ (seats : List WorldSeat). slice_index_or seats q (free_seat last.sizes)) seats
          ∙ ap (λ (z : Sizes). slice_index_or old.seats q (free_seat z)) sizes

  -- the seat of p changes alone
  writes : (p : ℕ) (after : WorldSeat) (last : State) → p < length old.seats → aside ≡ last → last.sizes ≡ old.sizes
      → last.seats ≡ slice_set old.seats p after
      → ((q : ℕ) → q ≢ p → (¬ (IsPublish x.reply q)) × (¬ (IsWithdrawal x.reply q)))
      → (is_pinned after.word ≡ true
      → IsPublish x.reply p ⊎ ((is_pinned (position_word old p) ≡ true) × (¬ (IsWithdrawal x.reply p))))
      → ((g : ℕ) → is_pinned (position_word old p) ≡ true → IsOut g (seat_of old p)
      → ¬ (LetsGo x p g) → StillOut x p g after)
      → (Guarded (seat_of old p) → Guarded after)
      → Fields → Kept
  writes p after last there e sizes seats others own holding guarded fields = record {
    pinned = λ q. elim (same_or_other q p) [
      | inl same ↦ subst (λ (k : ℕ). is_pinned (position_word new k) ≡ true
          → IsPublish x.reply k ⊎ ((is_pinned (position_word old k) ≡ true) × (¬ (IsWithdrawal x.reply k)))) (sym same)
          (λ pin. own (ap (λ (seat : WorldSeat). is_pinned seat.word) (sym written) ∙ pin))
      | inr ne ↦ λ pin. inr (ap (λ (seat : WorldSeat). is_pinned seat.word) (sym (other q ne)) ∙ pin, (others q ne).1)
    ];
    holding = λ q g. elim (same_or_other q p) [
      | inl same ↦ subst (λ (k : ℕ). is_pinned (position_word old k) ≡ true → IsOut g (seat_of old k) → ¬ (LetsGo x k g)
          → StillOut x k g (seat_of new k)) (sym same)
          (λ pin out kept. subst (λ (seat : WorldSeat). StillOut x p g seat) (sym written) (holding g pin out kept))
      | inr ne ↦ λ pin out kept.
          subst (λ (seat : WorldSeat). StillOut x q g seat) (sym (other q ne)) (pin, out, (others q ne).0)
    ];
    guarded = λ q. elim (same_or_other q p) [
      | inl same ↦ subst (λ (k : ℕ). Guarded (seat_of old k) → Guarded (seat_of new k)) (sym same)
          (λ was. subst Guarded (sym written) (guarded was))
      | inr ne ↦ λ was. subst Guarded (sym (other q ne)) was
    ];
    fields = fields;
  }
    where
      looked_up : (q : ℕ) → seat_of new q ≡ seat_of (with_seat old p after) q
      looked_up q = ap (λ (s : State). seat_of s q) e
          ∙ ap (λ (all : List WorldSeat). slice_index_or all q (free_seat last.sizes)) seats
          ∙ ap (λ (z : Sizes). slice_index_or (slice_set old.seats p after) q (free_seat z)) sizes

      written : seat_of new p ≡ after
      written = looked_up p ∙ seat_written old p after there

      other : (q : ℕ) → q ≢ p → seat_of new q ≡ seat_of old q
      other q ne = looked_up q ∙ seat_other old p q after ne

  -- p goes on under the same word
  goes_on : (p : ℕ) (after : WorldSeat) (last : State)
      → position_word old p ≢ Free → aside ≡ last → last.sizes ≡ old.sizes
      → last.seats ≡ slice_set old.seats p after → after.word ≡ position_word old p → IsSilent x.reply
      → ((g : ℕ) → IsOut g (seat_of old p) → ¬ (LetsGo x p g) → IsOut g after)
      → (Guarded (seat_of old p) → Guarded after)
      → Fields → Kept
  goes_on p after last taken e sizes seats word quiet out guarded fields =
      writes p after last (seat_there old p taken) e sizes seats
      (λ q ne. (quiet.published q, quiet.withdrawn q))
      (λ pin. inr (ap is_pinned (sym word) ∙ pin, quiet.withdrawn p))
      (λ g pin is_out kept. (ap is_pinned word ∙ pin, out g is_out kept, quiet.published p))
      guarded fields

  stays : IsSilent x.reply → aside ≡ old → Kept
  stays quiet e = unchanged old e refl refl quiet (heap_stays old e refl)

-- A STEP GO

module _ (past : Past) (old new : State) (log : List Entry) (x : Entry) (holds : Holds old log) (linked : AllLinked old)
    (frozen : IsFrozen past old x new) (p : ℕ) (on : x.step ≡ Go p) (taken : position_word old p ≢ Free) where
  abbrev seat : WorldSeat
  seat = seat_of old p

  abbrev m : Machine Deferral
  m = seat.machine

  abbrev Goal : Type 0
  Goal = KeepsReach past old new x

  abbrev IsFineAt : Stage → Type 0
  IsFineAt s = IsFine (view_of old holds.since holds.when) p seat.word m s

  -- its machine goes on
  machine_goes : (n : Machine Deferral) (last : State) → aside past old new x ≡ last → last.sizes ≡ old.sizes
      → last.seats ≡ slice_set old.seats p (with_machine seat n) → IsSilent x.reply → Fields past old new x → Goal
  machine_goes n last e sizes seats quiet fields =
      goes_on past old new x p (with_machine seat n) last taken e sizes seats refl quiet (λ g out kept. out)
      (λ was. was) fields

  steps : (n : Machine Deferral) (last : State)
      → x.reply ≡ Stepped → aside past old new x ≡ last → last.sizes ≡ old.sizes
      → last.seats ≡ slice_set old.seats p (with_machine seat n) → last.heap ≡ old.heap → Goal
  steps n last told e sizes seats heap = machine_goes n last e sizes seats (silent x.reply (quiet_stepped x.reply told))
      (heap_stays past old new x last e heap)

  -- its word changes, and it has nothing loaded, or lets go of it
  own_word : (w : Word) (n : WorldSeat) → n.word ≡ w
      → ((q : ℕ) → q ≢ p → (¬ (IsPublish x.reply q)) × (¬ (IsWithdrawal x.reply q)))
      → (is_pinned w ≡ true → IsPublish x.reply p)
      → ((g : ℕ) → is_pinned (position_word old p) ≡ true → IsOut g seat → ¬ (LetsGo x p g) → ⊥)
      → (Guarded seat → Guarded n) → aside past old new x ≡ with_seat old p n → Goal
  own_word w n word others own none guarded e = writes past old new x p n _ (seat_there old p taken) e refl refl others
      (λ pin. inl (own (ap is_pinned (sym word) ∙ pin))) (λ g pin out kept. absurd (none g pin out kept)) guarded
      (heap_stays past old new x _ e refl)

  drives : (c : Call) → seat.progress ≡ Driven c → (s : Stage) → m.stage ≡ s → IsFineAt s
      → DrivesCall old p seat c s (ask_at s) x.reply (aside past old new x) → Goal
  drives c drive Resting at fine did =
      let driven : IsDriven c m seat.guards = follows_at old.sizes seat (linked.seats p) (Driven c) drive in
      absurd (cc (driven.under_way, at))
  drives c drive (StorePin e) at fine did =
      own_word (Pinned e) (with_word seat (Pinned e) (hears m (StorePin e) Stored)) refl
      (λ q ne. (
        λ h. elim h [ inl a ↦ ne (cc (did.0, a)) | inr a ↦ cc (did.0, a) ],
        λ h. elim h [ inl a ↦ cc (did.0, a) | inr a ↦ cc (did.0, a) ],
      ))
      (λ pin. inl did.0) (λ g pin out kept. cc (pin, fine.agrees)) (λ was. was) did.1
  drives c drive (Take y k) at fine (step, jobs, queued, told, took, e) = steps _ _ told e refl refl refl
  drives c drive (Calling y k) at fine (job, jobs, hand, told, e) = machine_goes _ _ e refl refl
      (plain_silent x.reply (plain_called x.reply job.ticket _ told))
      (fewer_fields past old new x _ e (fewer_job old.heap job.removes))
  drives c drive (Put s) at fine (step, queued, told, put, e) = steps _ _ told e refl refl refl
  drives c drive Keep at fine did = machine_goes _ _ did.1 refl refl (silent_deferred x.reply _ did.0)
      (heap_stays past old new x _ did.1 refl)
  drives c drive (StoreRepin e) at fine did =
      own_word (Pinned e) (with_word seat (Pinned e) (hears m (StoreRepin e) Stored)) refl
      (λ q ne. (
        λ h. elim h [ inl a ↦ cc (did.0, a) | inr a ↦ ne (cc (did.0, a)) ],
        λ h. elim h [ inl a ↦ cc (did.0, a) | inr a ↦ ne (cc (did.0, a)) ],
      ))
      (λ pin. inr did.0) (λ g pin out kept. kept (inr did.0)) (λ was. was) did.1
  drives c drive StoreUnpinned at fine did =
      own_word Unpinned (with_word seat Unpinned (hears m StoreUnpinned Stored)) refl
      (λ q ne. (
        λ h. elim h [ inl a ↦ cc (did.0, a) | inr a ↦ cc (did.0, a) ],
        λ h. elim h [ inl a ↦ ne (cc (did.0, a)) | inr a ↦ cc (did.0, a) ],
      ))
      (λ pin. absurd (cc (pin))) (λ g pin out kept. some_left g out) (λ was. was) did.1
    where
      some_left : (g : ℕ) → IsOut g seat → ⊥
      some_left g out =
          let driven : IsDriven c m seat.guards = follows_at old.sizes seat (linked.seats p) (Driven c) drive in
          cc (
            fine.aims,
            ends_guarded seat g out.0 old.sizes c (linked.seats p) driven
                (λ gives. out.1 (subst (GivesUp g) (sym drive) gives)),
          )
  drives c drive StoreFree at fine did = own_word Free (free_seat old.sizes) refl
      (λ q ne. (
        λ h. elim h [ inl a ↦ cc (did.0, a) | inr a ↦ cc (did.0, a) ],
        λ h. elim h [ inl a ↦ cc (did.0, a) | inr a ↦ cc (did.0, a) ],
      ))
      (λ pin. absurd (cc (pin))) (λ g pin out kept. cc (pin, fine.agrees)) (λ was. tt) did.1
  drives c drive End at fine did = goes_on past old new x p (ended_seat c seat) _ taken did.1 refl refl
      (word_ended seat c) (silent x.reply (quiet_end x.reply c seat did.0))
      (λ g out kept. is_out_ended seat g out.0 c (λ gives. out.1 (subst (GivesUp g) (sym drive) gives)))
      (λ was. guarded_ended seat c) (heap_stays past old new x _ did.1 refl)
  drives c drive _ at fine did = steps _ _ did.0 did.1 refl refl refl

  -- a call on cells and pointers
  accesses : (a : Access) (k : ℕ) (found : Ptr) → seat.progress ≡ Accesses a k found
      → (did : Touched) → Touches a k found old.heap did
      → aside past old new x ≡ record (with_seat old p (accessed_seat a k did.told seat)) { heap = did.heap }
      → Fields past old new x
  accesses a k found now did touches e = elim (touches_pointers a k found old.heap did touches) [
    | inl fewer ↦ fewer_fields past old new x _ e fewer
    | inr pointed ↦ stay_pointed past old new x p pointed.guard pointed.spot frozen
        (record {
          step = on;
          taken = taken;
          change = pointed.change;
          steps = k;
          found = found;
          progress = now ∙ ap (λ (b : Access). Accesses b k found) pointed.call;
        })
        (λ other ne. ap (λ (s : State). pointer_at s.heap other) e ∙ pointed.others other ne)
  ]

-- EVERY STEP

module _ (past : Past) (old new : State) (log : List Entry) (x : Entry) (holds : Holds old log) (linked : AllLinked old)
    (frozen : IsFrozen past old x new) where
  abbrev after : State
  after = aside past old new x

  -- by the kind of the step: x has its reply, and the state after it is this one, the places aside
  kind_shows : (step : Step) (reply : Reply) (last : State) → StepKind old step reply last → x.step ≡ step
      → x.reply ≡ reply → after ≡ last → KeepsReach past old new x
  kind_shows _ _ _ (Refusal step fault) on told e =
      stays past old new x (silent x.reply (quiet_refused x.reply fault told)) e
  kind_shows _ _ _ (Registration p opened there free) on told e = let quiet = silent_registered x.reply p told in
      writes past old new x p (record (free_seat old.sizes) { word = Unpinned }) _ there e refl refl
      (λ q ne. (quiet.published q, quiet.withdrawn q)) (λ pin. absurd (cc (pin)))
      (λ g pin out kept. absurd (cc (pin, ap is_pinned free))) (λ was. tt) (heap_stays past old new x _ e refl)
  kind_shows _ _ _ (CallBegins p c given) on told e =
      goes_on past old new x p (begun_seat c (seat_of old p)) _ given.taken e refl refl (word_begun (seat_of old p) c)
      (silent x.reply (quiet_began x.reply told))
      (λ g out kept. is_out_begun (seat_of old p) g c (λ gives. kept (inl (
        elim gives [
          | inl same ↦ inl (on ∙ ap (Begin p) same)
          | inr same ↦ inr (on ∙ ap (Begin p) same)
        ],
        told,
      ))) out.0)
      (λ was. guarded_begun (seat_of old p) old.tickets old.heap c given.own) (heap_stays past old new x _ e refl)
  kind_shows _ _ _ (MachineStep p c reply last taken drive did) on told e =
      drives past old new log x holds linked frozen p on taken c drive _ refl (holds.seats p)
      (subst₂ (λ (r : Reply) (s : State). DrivesCall old p (seat_of old p) c (seat_of old p).machine.stage
      (ask_at (seat_of old p).machine.stage) r s) (sym told) (sym e) did)
  kind_shows _ _ _ (JobStep p removes taken now) on told e =
      goes_on past old new x p _ _ taken e refl refl refl (silent x.reply (quiet_now x.reply _ told))
      (λ g out kept. (out.0, λ gives. gives)) (λ was. tt)
      (fewer_fields past old new x _ e (fewer_job old.heap removes))
  kind_shows _ _ _ (CellsStep p a k found did taken now touches) on told e =
      goes_on past old new x p _ _ taken e refl refl refl (silent x.reply (quiet_access x.reply did.told told))
      (λ g out kept. is_out_accessed (seat_of old p) g a k did.told out.0)
      (λ was. guarded_accessed (seat_of old p) a k found did.told
      (subst (λ (progress : Progress). GuardsAccess progress (seat_of old p).guards) now was))
      (accesses past old new log x holds linked frozen p on taken a k found now did touches e)
  kind_shows _ _ _ (LastReply p reply taken now) on told e =
      let done = (follows_at old.sizes (seat_of old p) (linked.seats p) (Ends reply) now).1 in
      goes_on past old new x p _ _ taken e refl refl refl
      (silent x.reply (quiet_done x.reply _ (told ∙ done.1)))
      (λ g out kept. (out.0, λ gives. gives)) (λ was. tt) (heap_stays past old new x _ e refl)
  kind_shows _ _ _ (EndBegins opened free) on told e = unchanged past old new x _ e refl refl
      (silent x.reply (quiet_began x.reply told)) (heap_stays past old new x _ e refl)
  kind_shows _ _ _ (EndCalls job jobs n at) on told e = unchanged past old new x _ e refl refl
      (plain_silent x.reply (plain_called x.reply job.ticket _ told))
      (fewer_fields past old new x _ e (fewer_job old.heap job.removes))
  kind_shows _ _ _ (EndTakes bag queued n at out) on told e = unchanged past old new x _ e refl refl
      (silent x.reply (quiet_stepped x.reply told)) (heap_stays past old new x _ e refl)
  kind_shows _ _ _ (EndIsOver n at none) on told e = unchanged past old new x _ e refl refl
      (silent x.reply (quiet_done x.reply _ told)) (heap_stays past old new x _ e refl)

  pub step_shows : (s : Step) → x.step ≡ s → Moves old s x.reply after → KeepsReach past old new x
  step_shows s on did = kind_shows s x.reply after (step_kind old after s x.reply did) on refl refl
