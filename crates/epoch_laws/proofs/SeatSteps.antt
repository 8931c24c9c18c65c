-- Steps that keep what holds: nothing is changed, or one seat goes on, publishes or withdraws.
use Rattle.std.proofs.Common.{◌≡◌, ◌≢◌, ℕ, ◌<◌, ◌≤◌, true, false, List, [], ◌∷◌, ◌++◌, inl, inr, refl, ap, sym, ◌∙◌}
use Rattle.std.proofs.Common.{arith, le_of_eq}
use Rattle.epoch_bags.specs.declared.job.Called.{Called}
use Rattle.epoch_laws.specs.declared.step.Reply.TheVariants.{Deferred, Called as CalledReply}
use Rattle.epoch_laws.specs.declared.step.Entry.{Entry}
use Rattle.epoch_laws.specs.declared.step.Word.TheVariants.{Free, Pinned}
use Rattle.epoch_laws.specs.Run.{Bag, WorldSeat, State, position_word, with_seat}
use Rattle.epoch_laws.proofs.SeatLemmas.{seat_there}
use Rattle.epoch_laws.proofs.DeferralEpochs.{DeferredBy, SealedBehind}
use Rattle.epoch_laws.proofs.Log.{IsPublish, IsWithdrawal}
use Rattle.epoch_laws.proofs.QuietReplies.{IsPlain, IsQuiet}
use Rattle.epoch_laws.proofs.SeatsFine.{View, is_pinned, publishes_at, AimsAt, KnowsAt, SeatIsFine, passes_same}
use Rattle.epoch_laws.proofs.SeatsFine.{fine_more}
use Rattle.epoch_laws.proofs.LogKept.{log_push}
use Rattle.epoch_laws.proofs.WorldHolds.{Holds, holds_along, view_of, acted, changed, changed_same, changed_other}

-- the job of a ticket called was deferred before anybody who is pinned has published
abbrev pub CallsEarlier : State → (ℕ → ℕ) → (ℕ → ℕ) → ℕ → Type 0
CallsEarlier s since when t =
    (t < s.tickets) × ((q : ℕ) → is_pinned (position_word s q) ≡ true → when t < since q)

module _ (old new : State) (log : List Entry) (x : Entry) (h : Holds old log) where
  abbrev v : View
  v = view_of old h.since h.when

  -- nothing changed, and nothing was told
  pub stay : IsQuiet x.reply → new ≡ old → Holds new (log ++ x ∷ [])
  stay quiet e = holds_along new old _ e (record {
    since = h.since;
    when = h.when;
    seats = h.seats;
    queued = h.queued;
    closed = h.closed;
    ending = h.ending;
    logged = log_push v v log x h.logged
        (passes_same v)
        (record {
          published = λ p told. absurd (quiet.plain.published p told);
          lasting = λ p pinned on. (pinned, refl);
          deferred = λ t told. absurd (quiet.plain.deferred t told);
          called = λ t how told. absurd (quiet.called t how told);
        });
  })

  -- p goes on under the same word, and tells nothing but perhaps a call
  pub plain_step : (p : ℕ) (after : WorldSeat) (queued : List Bag)
      → position_word old p ≢ Free → after.word ≡ position_word old p
      → IsPlain x.reply
      → ((t : ℕ) (how : Called) → x.reply ≡ CalledReply t how → CallsEarlier old h.since h.when t)
      → SeatIsFine v p after → SealedBehind h.when old.tickets old.epoch queued
      → new ≡ record (with_seat old p after) { queued = queued } → Holds new (log ++ x ∷ [])
  plain_step p after queued taken same plain called fine sealed e =
      holds_along new _ _ e (acted old _ log x h h.since h.when p after (record {
        there = seat_there old p taken;
        still_open = λ shut. taken (h.closed shut p);
        sizes = refl;
        seats = refl;
        ending = refl;
        epoch = omega arith;
        tickets = omega arith;
        when_old = λ t lt. refl;
        since_other = λ q ne. refl;
        near = λ q ne pinned. (h.seats q).recent pinned;
        own = λ pinned. inl (ap is_pinned (sym same) ∙ pinned, refl);
        fine = λ passes. fine_more _ _ p after.word after.machine after.machine.stage passes refl fine.recent fine;
        queued = sealed;
        published = λ q told. absurd (plain.published q told);
        lasting = λ pinned on. (ap is_pinned same ∙ pinned, refl);
        deferred = λ t told. absurd (plain.deferred t told);
        called = called;
      }))

  pub quiet_step : (p : ℕ) (after : WorldSeat)
      → position_word old p ≢ Free → after.word ≡ position_word old p → IsQuiet x.reply
      → SeatIsFine v p after → new ≡ with_seat old p after → Holds new (log ++ x ∷ [])
  quiet_step p after taken same quiet fine e = plain_step p after old.queued taken same quiet.plain
      (λ t how told. absurd (quiet.called t how told)) fine h.queued e

  -- p publishes the number n
  pub publishes : (p n : ℕ) (after : WorldSeat) → position_word old p ≢ Free → n ≤ old.epoch → after.word ≡ Pinned n
      → publishes_at after.machine after.machine.stage ≡ true → AimsAt after.machine after.machine.stage
      → DeferredBy h.when old.tickets old.epoch after.machine.held
      → ((w : View) → KnowsAt w p after.machine.held after.machine.hand after.machine.stage)
      → ((q : ℕ) → IsPublish x.reply q → q ≡ p) → (is_pinned (position_word old p) ≡ true → IsWithdrawal x.reply p)
      → ((t : ℕ) → x.reply ≢ Deferred t) → ((t : ℕ) (how : Called) → x.reply ≢ CalledReply t how)
      → new ≡ with_seat old p after → Holds new (log ++ x ∷ [])
  publishes p n after taken seen word says aims held knows told withdrawn deferred called e =
      holds_along new _ _ e (acted old _ log x h since' h.when p after (record {
        there = seat_there old p taken;
        still_open = λ shut. taken (h.closed shut p);
        sizes = refl;
        seats = refl;
        ending = refl;
        epoch = omega arith;
        tickets = omega arith;
        when_old = λ t lt. refl;
        since_other = λ q ne. changed_other h.since p old.epoch q ne;
        near = λ q ne pinned. (h.seats q).recent pinned;
        own = λ pinned. inr (le_of_eq (sym now));
        fine = λ passes. record {
          published = λ i is. let same : n ≡ i = cc in omega (arith, now, same);
          before = le_of_eq now;
          recent = λ pinned. omega (arith, now);
          agrees = ap is_pinned word ∙ sym says;
          aims = aims;
          held = held;
          knows = knows _;
        };
        queued = h.queued;
        published = λ q t. (told q t, ap is_pinned word);
        lasting = λ pinned on. absurd (on (withdrawn pinned));
        deferred = λ t d. absurd (deferred t d);
        called = λ t how c. absurd (called t how c);
      }))
    where
      since' : ℕ → ℕ
      since' = changed h.since p old.epoch

      now : changed h.since p old.epoch p ≡ old.epoch
      now = changed_same h.since p old.epoch

  -- p stores a word that isn't pinned
  pub withdraws : (p : ℕ) (after : WorldSeat) → position_word old p ≢ Free → is_pinned after.word ≡ false
      → publishes_at after.machine after.machine.stage ≡ false → AimsAt after.machine after.machine.stage
      → DeferredBy h.when old.tickets old.epoch after.machine.held
      → ((w : View) → KnowsAt w p after.machine.held after.machine.hand after.machine.stage)
      → ((q : ℕ) → ¬ (IsPublish x.reply q)) → (is_pinned (position_word old p) ≡ true → IsWithdrawal x.reply p)
      → ((t : ℕ) → x.reply ≢ Deferred t) → ((t : ℕ) (how : Called) → x.reply ≢ CalledReply t how)
      → new ≡ with_seat old p after → Holds new (log ++ x ∷ [])
  withdraws p after taken word says aims held knows told withdrawn deferred called e =
      holds_along new _ _ e (acted old _ log x h h.since h.when p after (record {
        there = seat_there old p taken;
        still_open = λ shut. taken (h.closed shut p);
        sizes = refl;
        seats = refl;
        ending = refl;
        epoch = omega arith;
        tickets = omega arith;
        when_old = λ t lt. refl;
        since_other = λ q ne. refl;
        near = λ q ne pinned. (h.seats q).recent pinned;
        own = λ pinned. absurd (cc (pinned, word));
        fine = λ passes. record {
          published = λ i is. absurd (cc (ap is_pinned is, word));
          before = (h.seats p).before;
          recent = λ pinned. absurd (cc (pinned, word));
          agrees = word ∙ sym says;
          aims = aims;
          held = held;
          knows = knows _;
        };
        queued = h.queued;
        published = λ q t. absurd (told q t);
        lasting = λ pinned on. absurd (on (withdrawn pinned));
        deferred = λ t d. absurd (deferred t d);
        called = λ t how c. absurd (called t how c);
      }))
