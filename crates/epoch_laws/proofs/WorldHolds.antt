-- What holds of the world and its log between any two steps, and what a step on one seat must keep of it.
use Rattle.std.proofs.Common.{◌≡◌, ◌≢◌, ℕ, ◌+◌, ◌<◌, ◌≤◌, true, List, [], ◌∷◌, ◌++◌, length, ◌⊎◌, inl, inr, ap, sym}
use Rattle.std.proofs.Common.{subst, ◌∙◌, arith, eqb, cond, slice_index_or, slice_set}
use Rattle.std.proofs.lemmas.Bool.Decides.{nat_tests}
use Rattle.epoch_bags.specs.declared.job.Called.{Called}
use Rattle.epoch_machine.specs.declared.machine.Sizes.{Sizes}
use Rattle.epoch_laws.specs.declared.step.Reply.{Reply}
use Rattle.epoch_laws.specs.declared.step.Reply.TheVariants.{Deferred, Called as CalledReply}
use Rattle.epoch_laws.specs.declared.step.Entry.{Entry}
use Rattle.epoch_laws.specs.Run.{WorldSeat, State, seat_of, position_word, with_seat, free_seat, Ending, Open, Emptying}
use Rattle.epoch_laws.specs.Run.{AllFree, with_heap}
use Rattle.epoch_laws.proofs.SeatLemmas.{seat_written, seat_other, same_or_other}
use Rattle.epoch_laws.proofs.DeferralEpochs.{DeferredBy, SealedBehind, deferred_more}
use Rattle.epoch_laws.proofs.Log.{IsPublish, IsWithdrawal}
use Rattle.epoch_laws.proofs.SeatsFine.{View, is_pinned, SeatIsFine, WasPinned, Passes, fine_more}
use Rattle.epoch_laws.proofs.LogKept.{LogHolds, Tells, Lasts, log_push}
use Rattle.epoch_laws.specs.Heap.{Heap}

abbrev pub view_of : State → (ℕ → ℕ) → (ℕ → ℕ) → View
view_of s since when =
    record { epoch = s.epoch; tickets = s.tickets; word = position_word s; since = since; when = when }

-- the jobs in the hands of the end
abbrev pub EndHolds : (ℕ → ℕ) → ℕ → Ending → Type 0
EndHolds when tickets (Emptying hand n) = (bound : ℕ) × DeferredBy when tickets bound hand
EndHolds when tickets _ = Unit {0}

-- What holds between any two steps of a run from a fresh state: of each participant, of the jobs wherever they are,
-- and of what was told so far.
pub record Holds (s : State) (log : List Entry) : Type 0 where
  pub since : ℕ → ℕ  -- for each participant, the epoch when it last published
  pub when : ℕ → ℕ  -- for each ticket, the epoch when its job was deferred
  pub seats : (p : ℕ) → SeatIsFine (view_of s since when) p (seat_of s p)
  pub queued : SealedBehind when s.tickets s.epoch s.queued  -- bags are sealed at or after their deferrals
  pub closed : s.ending ≢ Open → AllFree s  -- once an end has begun, nobody is registered
  pub ending : EndHolds when s.tickets s.ending
  pub logged : LogHolds (view_of s since when) log  -- what was told agrees with the view, and keeps grace

-- what holds of a state and its log holds of a state that is the same
pub holds_along : (new last : State) (log : List Entry) → new ≡ last → Holds last log → Holds new log
holds_along new last log e h = subst (λ (s : State). Holds s log) (sym e) h

-- the cells and pointers play no part
pub heap_aside : (s : State) (log : List Entry) (heap : Heap) → Holds (with_heap s heap) log → Holds s log
heap_aside s log heap h = record {
  since = h.since;
  when = h.when;
  seats = h.seats;
  queued = h.queued;
  closed = h.closed;
  ending = h.ending;
  logged = h.logged;
}

-- a function changed at one place
abbrev pub changed : (ℕ → ℕ) → ℕ → ℕ → ℕ → ℕ
changed f p e q = cond (eqb q p) e (f q)

-- at the place that was changed, it has the new value
pub changed_same : (f : ℕ → ℕ) (p e : ℕ) → changed f p e p ≡ e
changed_same f p e = grind (arith, nat_tests)

-- at each other place, it has the value that it had
pub changed_other : (f : ℕ → ℕ) (p e q : ℕ) → q ≢ p → changed f p e q ≡ f q
changed_other f p e q ne = grind (arith, nat_tests)

-- What a step of p must show: its seat after the step is fine in the new view, and what the reply tells of p.
pub record Acts (old new : State) (since when since' when' : ℕ → ℕ) (p : ℕ) (after : WorldSeat)
    (r : Reply) : Type 0 where
  pub there : p < length old.seats
  pub still_open : ¬ (old.ending ≢ Open)  -- no end has begun
  pub sizes : new.sizes ≡ old.sizes
  pub seats : new.seats ≡ slice_set old.seats p after  -- no other seat changes
  pub ending : new.ending ≡ old.ending
  pub epoch : old.epoch ≤ new.epoch
  pub tickets : old.tickets ≤ new.tickets
  -- what is known of tickets that were given, and of the publishes of others, stays
  pub when_old : (t : ℕ) → t < old.tickets → when' t ≡ when t
  pub since_other : (q : ℕ) → q ≢ p → since' q ≡ since q
  -- the new epoch is at most one past the publish of each other participant that is pinned
  pub near : (q : ℕ) → q ≢ p → is_pinned (position_word old q) ≡ true → new.epoch ≤ since q + 1
  -- if p is pinned after the step, it was so before it, or has published by it
  pub own : is_pinned after.word ≡ true
      → ((is_pinned (position_word old p) ≡ true) × (since' p ≡ since p)) ⊎ (old.epoch ≤ since' p)
  -- the seat is fine, where the step passes from the old view to the new one as steps may
  pub fine : Passes (view_of old since when) (view_of new since' when') → SeatIsFine (view_of new since' when') p after
  pub queued : SealedBehind when' new.tickets new.epoch new.queued  -- bags are sealed at or after their deferrals
  -- only p is told to have published, and is pinned then
  pub published : (q : ℕ) → IsPublish r q → (q ≡ p) × (is_pinned after.word ≡ true)
  -- a pin lasts, with its publish, until it is told to be withdrawn
  pub lasting : is_pinned (position_word old p) ≡ true → ¬ (IsWithdrawal r p)
      → (is_pinned after.word ≡ true) × (since' p ≡ since p)
  -- a deferral gets the next ticket, and nobody has published at a later epoch
  pub deferred : (t : ℕ) → r ≡ Deferred t → (t ≡ old.tickets) × (t < new.tickets) × ((q : ℕ) → since' q ≤ when' t)
  -- whoever is pinned when a job is called has published at a later epoch than that of its deferral
  pub called : (t : ℕ) (how : Called) → r ≡ CalledReply t how
      → (t < old.tickets) × ((q : ℕ) → is_pinned (position_word old q) ≡ true → when t < since q)

end_more : (when when' : ℕ → ℕ) (n n' : ℕ) (e : Ending) → n ≤ n' → ((t : ℕ) → t < n → when' t ≡ when t)
    → EndHolds when n e → EndHolds when' n' e
end_more when when' n n' (Emptying hand k) more same h =
    (h.0, deferred_more when when' n n' h.0 h.0 hand more (omega arith) same h.1)
end_more when when' n n' _ more same h = tt

-- where a step of one participant shows all that, what held before it holds after it, with its entry in the log
pub acted : (old new : State) (log : List Entry) (x : Entry) (h : Holds old log) (since' when' : ℕ → ℕ) (p : ℕ)
    (after : WorldSeat) → Acts old new h.since h.when since' when' p after x.reply → Holds new (log ++ x ∷ [])
acted old new log x h since' when' p after a = record {
  since = since';
  when = when';
  seats = λ q. elim (same_or_other q p) [
    | inl same ↦ subst (λ r. SeatIsFine v' r (seat_of new r)) (sym same)
        (subst (λ (seat : WorldSeat). SeatIsFine v' p seat) (sym written) (a.fine passes))
    | inr ne ↦ subst (λ (seat : WorldSeat). SeatIsFine v' q seat) (sym (other q ne)) (untouched q ne)
  ];
  queued = a.queued;
  closed = λ shut. absurd (a.still_open (λ e. shut (a.ending ∙ e)));
  ending = subst (EndHolds when' new.tickets) (sym a.ending)
      (end_more h.when when' old.tickets new.tickets old.ending a.tickets a.when_old h.ending);
  logged = log_push v v' log x h.logged passes tells;
}
  where
    v : View
    v = view_of old h.since h.when

    v' : View
    v' = view_of new since' when'

    looked_up : (q : ℕ) → seat_of new q ≡ seat_of (with_seat old p after) q
    looked_up q = ap (λ (ss : List WorldSeat). slice_index_or ss q (free_seat new.sizes)) a.seats
        ∙ ap (λ (z : Sizes). slice_index_or (slice_set old.seats p after) q (free_seat z)) a.sizes

    written : seat_of new p ≡ after
    written = looked_up p ∙ seat_written old p after a.there

    other : (q : ℕ) → q ≢ p → seat_of new q ≡ seat_of old q
    other q ne = looked_up q ∙ seat_other old p q after ne

    word_at : position_word new p ≡ after.word
    word_at = ap (λ (seat : WorldSeat). seat.word) written

    word_other : (q : ℕ) → q ≢ p → position_word new q ≡ position_word old q
    word_other q ne = ap (λ (seat : WorldSeat). seat.word) (other q ne)

    was_pinned : (j : ℕ) → WasPinned v v' j
    was_pinned j = elim (same_or_other j p) [
      | inl same ↦ subst (WasPinned v v') (sym same) (λ pinned. a.own (ap is_pinned (sym word_at) ∙ pinned))
      | inr ne ↦ λ pinned. inl (ap is_pinned (sym (word_other j ne)) ∙ pinned, a.since_other j ne)
    ]

    passes : Passes v v'
    passes = record { epoch = a.epoch; tickets = a.tickets; when = a.when_old; pinned = was_pinned }

    untouched : (q : ℕ) → q ≢ p → SeatIsFine v' q (seat_of old q)
    untouched q ne = fine_more v v' q (position_word old q) (seat_of old q).machine (seat_of old q).machine.stage passes
        (a.since_other q ne) (a.near q ne) (h.seats q)

    lasts : (q : ℕ) → Lasts v v' x.reply q
    lasts q = elim (same_or_other q p) [
      | inl same ↦ subst (Lasts v v' x.reply) (sym same)
          (λ pinned on. let l = a.lasting pinned on in (ap is_pinned word_at ∙ l.0, l.1))
      | inr ne ↦ λ pinned on. (ap is_pinned (word_other q ne) ∙ pinned, a.since_other q ne)
    ]

    tells : Tells v v' x.reply
    tells = record {
      published = λ q told. let r = a.published q told in
          subst (λ (k : ℕ). is_pinned (position_word new k) ≡ true) (sym r.0) (ap is_pinned word_at ∙ r.1);
      lasting = lasts;
      deferred = a.deferred;
      called = a.called;
    }
