-- What every run of a domain keeps, by induction over its steps.
use Rattle.std.proofs.Common.{◌≡◌, ◌≢◌, inl, inr, ℕ, ◌+◌, ◌*◌, ◌<◌, ◌≤◌, eqb, eq-eqb, ne_eqb, if◌then◌else◌}
use Rattle.std.proofs.Common.{Bool, true, false, List, [], ◌∷◌, refl, sym, subst}
use native.Mathlib.Omega.{arith}
use native.Mathlib.Decide.{ℕ_discrete}
use Rattle.std.proofs.Math.Decide.{dec_lt}
use mathlib.Core.Logic.{dite}
use Rattle.epoch_lend.specs.Posts.{IsOneOf, posted}
use Rattle.epoch_lend.specs.Grace.{PinStep, LoadsClock, Publishes, Unpins, Ticks, Looks, Passes}
use Rattle.epoch_lend.specs.PinRuns.{clock_after, pins_so_far, post_word, pin_at, pins_before, MayFollow, IsPinRun}
use Rattle.epoch_lend.specs.PinRuns.{PinsStayNear, EarlierPinsAreOfEarlierEpochs, PassedPinsAreLater}
use Rattle.epoch_lend.specs.PinRuns.{PinsFromBeforeAreOver}

-- one of two numbers that are both within a limit
one_within : (which : Bool) (x y limit : ℕ) → x ≤ limit → y ≤ limit → (if which then x else y) ≤ limit
one_within true x y limit less other = less
one_within false x y limit less other = other

-- the clock never goes back
clock_grows : (step : PinStep) (before : List PinStep) → clock_after before ≤ clock_after (step ∷ before)
clock_grows (LoadsClock epoch) before = omega arith
clock_grows (Publishes position epoch) before = omega arith
clock_grows (Unpins position) before = omega arith
clock_grows (Ticks epoch) before = omega arith
clock_grows (Looks clock position word) before = omega arith

-- an epoch that was loaded isn't past the clock
loaded_within : (run : List PinStep) (epoch : ℕ) → IsPinRun run → IsOneOf (LoadsClock epoch) run
    → epoch ≤ clock_after run
loaded_within [] epoch is found = absurd found
loaded_within (step ∷ before) epoch is (inl now) =
    let at : epoch ≡ clock_after before = subst (MayFollow before) (sym now) is.0 in
    omega (arith, at, clock_grows step before)
loaded_within (step ∷ before) epoch is (inr earlier) =
    let within = loaded_within before epoch is.1 earlier in omega (arith, within, clock_grows step before)

-- nor is one that a look tells of
look_within : (run : List PinStep) (clock post word : ℕ) → IsPinRun run → IsOneOf (Looks clock post word) run
    → clock ≤ clock_after run
look_within [] clock post word is found = absurd found
look_within (step ∷ before) clock post word is (inl now) =
    let looks : MayFollow before (Looks clock post word) = subst (MayFollow before) (sym now) is.0 in
    let within = loaded_within before clock is.1 looks.0 in omega (arith, within, clock_grows step before)
look_within (step ∷ before) clock post word is (inr earlier) =
    let within = look_within before clock post word is.1 earlier in omega (arith, within, clock_grows step before)

-- in every run no pin is of an epoch past the clock
pub pins_stay_near : PinsStayNear
pins_stay_near [] post is = omega arith
pins_stay_near (LoadsClock epoch ∷ before) post is = pins_stay_near before post is.1
pins_stay_near (Publishes position epoch ∷ before) post is =
    let loaded = loaded_within before epoch is.1 is.0 in
    one_within (eqb post position) (posted epoch) (post_word post before) (2 * clock_after before + 1)
    (omega (arith, loaded)) (pins_stay_near before post is.1)
pins_stay_near (Unpins position ∷ before) post is =
    one_within (eqb post position) 0 (post_word post before) (2 * clock_after before + 1) (omega arith)
    (pins_stay_near before post is.1)
pins_stay_near (Ticks epoch ∷ before) post is =
    let near = pins_stay_near before post is.1 in omega (arith, near)
pins_stay_near (Looks clock position word ∷ before) post is = pins_stay_near before post is.1

-- when the clock came to an epoch, there were no more pins than there are now
before_within : (run : List PinStep) (epoch : ℕ) → pins_before epoch run ≤ pins_so_far run
before_within [] epoch = omega arith
before_within (LoadsClock other ∷ before) epoch = before_within before epoch
before_within (Publishes position other ∷ before) epoch =
    let within = before_within before epoch in omega (arith, within)
before_within (Unpins position ∷ before) epoch = before_within before epoch
before_within (Ticks next ∷ before) epoch =
    one_within (eqb epoch next) (pins_so_far before) (pins_before epoch before) (pins_so_far before) (omega arith)
    (before_within before epoch)
before_within (Looks clock position word ∷ before) epoch = before_within before epoch

-- a pin that begins now is no earlier one; and at another post the pin is that from before
pinned_now : (here : Bool) (now word pins pin count epoch : ℕ) → count ≤ pins
    → (word ≢ 0 → pin < count → word < 2 * epoch)
    → (if here then now else word) ≢ 0 → (if here then pins else pin) < count
    → (if here then now else word) < 2 * epoch
pinned_now true now word pins pin count epoch within kept pinned early = absurd (omega (arith, within, early))
pinned_now false now word pins pin count epoch within kept pinned early = kept pinned early

-- a post that is unpinned now has no pin; and at another post the word is that from before
unpinned_now : (here : Bool) (word epoch : ℕ) → (word ≢ 0 → word < 2 * epoch) → (if here then 0 else word) ≢ 0
    → (if here then 0 else word) < 2 * epoch
unpinned_now true word epoch kept pinned = absurd (pinned refl)
unpinned_now false word epoch kept pinned = kept pinned

-- the clock comes to this epoch now: each pin is of an epoch before. Or it comes to another one.
ticked_now : (word pin pins count epoch next clock : ℕ) → word ≤ 2 * clock + 1 → next ≡ clock + 1
    → (pin < count → word < 2 * epoch) → pin < (if eqb epoch next then pins else count) → word < 2 * epoch
ticked_now word pin pins count epoch next clock near at kept =
    let Kept : Bool → Type 0 = λ b. pin < (if b then pins else count) → word < 2 * epoch in
    dite (ℕ_discrete epoch next)
    (λ now. subst Kept (sym (eq-eqb epoch next now)) (λ early. omega (arith, near, at, now)))
    (λ other. subst Kept (sym (ne_eqb epoch next other)) kept)

-- in every run a pin that began before the clock came to an epoch is of an epoch before that
pub earlier_pins : EarlierPinsAreOfEarlierEpochs
earlier_pins [] post epoch is pinned early = absurd (pinned refl)
earlier_pins (LoadsClock other ∷ before) post epoch is pinned early = earlier_pins before post epoch is.1 pinned early
earlier_pins (Publishes position other ∷ before) post epoch is pinned early =
    pinned_now (eqb post position) (posted other) (post_word post before) (pins_so_far before) (pin_at post before)
    (pins_before epoch before) epoch (before_within before epoch) (earlier_pins before post epoch is.1) pinned early
earlier_pins (Unpins position ∷ before) post epoch is pinned early =
    unpinned_now (eqb post position) (post_word post before) epoch
    (λ was_pinned. earlier_pins before post epoch is.1 was_pinned early) pinned
earlier_pins (Ticks next ∷ before) post epoch is pinned early =
    ticked_now (post_word post before) (pin_at post before) (pins_so_far before) (pins_before epoch before) epoch next
    (clock_after before) (pins_stay_near before post is.1) is.0 (earlier_pins before post epoch is.1 pinned) early
earlier_pins (Looks clock position word ∷ before) post epoch is pinned early =
    earlier_pins before post epoch is.1 pinned early

-- a pin of an epoch that passes is no earlier one
passes_later : (word pin count epoch : ℕ) → (pin < count → word < 2 * epoch) → 2 * epoch ≤ word → count ≤ pin
passes_later word pin count epoch early passes = dite (dec_lt pin count)
    (λ less. let lower = early less in absurd (omega (arith, lower, passes)))
    (λ not_less. omega (arith, not_less))

-- a pin that begins now is later than each epoch so far
pinned_later : (here : Bool) (now word pins pin count : ℕ) → count ≤ pins → (word ≢ 0 → count ≤ pin)
    → (if here then now else word) ≢ 0 → count ≤ (if here then pins else pin)
pinned_later true now word pins pin count within kept pinned = within
pinned_later false now word pins pin count within kept pinned = kept pinned

unpinned_later : (here : Bool) (word pin count : ℕ) → (word ≢ 0 → count ≤ pin) → (if here then 0 else word) ≢ 0
    → count ≤ pin
unpinned_later true word pin count kept pinned = absurd (pinned refl)
unpinned_later false word pin count kept pinned = kept pinned

-- the clock doesn't come to an epoch twice
ticked_later : (epoch next clock pins count pin : ℕ) → epoch ≤ clock → next ≡ clock + 1 → count ≤ pin
    → (if eqb epoch next then pins else count) ≤ pin
ticked_later epoch next clock pins count pin past at kept =
    subst (λ (b : Bool). (if b then pins else count) ≤ pin) (sym (ne_eqb epoch next (λ same. omega (
      arith,
      past,
      at,
      same,
    )))) kept

-- a look that passes, now
passes_now : (before : List PinStep) (post epoch clock word : ℕ) → IsPinRun before
    → MayFollow before (Looks clock post word) → Passes epoch word → post_word post before ≢ 0
    → pins_before epoch before ≤ pin_at post before
passes_now before post epoch clock word is looks passes pinned =
    let found : post_word post before ≡ word = sym looks.1 in
    let past : 2 * epoch ≤ post_word post before = subst (λ (n : ℕ). n ≢ 0 → 2 * epoch ≤ n) (sym found) passes pinned in
    passes_later (post_word post before) (pin_at post before) (pins_before epoch before) epoch
    (earlier_pins before post epoch is pinned) past

-- in every run, once a look has passed a post, after the clock came to an epoch, the pin there began since
pub passed_pins : PassedPinsAreLater
passed_pins [] post epoch clock word is past found passes pinned = absurd found
passed_pins (step ∷ before) post epoch clock word is past (inl now) passes pinned =
    let After : PinStep → Type 0 = λ s. post_word post (s ∷ before) ≢ 0
    → pins_before epoch (s ∷ before) ≤ pin_at post (s ∷ before) in
    let looks : MayFollow before (Looks clock post word) = subst (MayFollow before) (sym now) is.0 in
    subst After now (passes_now before post epoch clock word is.1 looks passes) pinned
passed_pins (LoadsClock other ∷ before) post epoch clock word is past (inr earlier) passes pinned =
    passed_pins before post epoch clock word is.1 past earlier passes pinned
passed_pins (Publishes position other ∷ before) post epoch clock word is past (inr earlier) passes pinned =
    pinned_later (eqb post position) (posted other) (post_word post before) (pins_so_far before) (pin_at post before)
    (pins_before epoch before) (before_within before epoch)
    (passed_pins before post epoch clock word is.1 past earlier passes) pinned
passed_pins (Unpins position ∷ before) post epoch clock word is past (inr earlier) passes pinned =
    unpinned_later (eqb post position) (post_word post before) (pin_at post before) (pins_before epoch before)
    (passed_pins before post epoch clock word is.1 past earlier passes) pinned
passed_pins (Ticks next ∷ before) post epoch clock word is past (inr earlier) passes pinned =
    let shown = look_within before clock post word is.1 earlier in
    ticked_later epoch next (clock_after before) (pins_so_far before) (pins_before epoch before) (pin_at post before)
    (omega (arith, past, shown)) is.0 (passed_pins before post epoch clock word is.1 past earlier passes pinned)
passed_pins (Looks other position found ∷ before) post epoch clock word is past (inr earlier) passes pinned =
    passed_pins before post epoch clock word is.1 past earlier passes pinned

-- in every run, once looks have passed all posts, after the clock came to an epoch, each pin left began since
pub pins_over : PinsFromBeforeAreOver
pins_over run epoch posts is passed post within pinned =
    let look = passed.2 post within in
    passed_pins run post epoch passed.0 look.0 is passed.1 look.1 look.2 pinned
