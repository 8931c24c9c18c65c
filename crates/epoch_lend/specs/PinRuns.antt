-- Runs of a domain: all its steps so far, the latest first. What they left at the posts, and what holds of every run.
use Rattle.std.specs.Prelude.{◌≡◌, ◌≢◌, ℕ, ◌+◌, ◌*◌, ◌<◌, ◌≤◌, eqb, if◌then◌else◌, List, [], ◌∷◌}
use Rattle.epoch_lend.specs.Posts.{IsOneOf, posted}
use Rattle.epoch_lend.specs.Grace.{PinStep, LoadsClock, Publishes, Unpins, Ticks, Looks, Passes, PassesAll}

-- the epoch that the clock shows after these steps
abbrev pub clock_after : List PinStep → ℕ
clock_after [] = 1
clock_after (Ticks epoch ∷ before) = clock_after before + 1
clock_after (step ∷ before) = clock_after before

-- how many pins there were
abbrev pub pins_so_far : List PinStep → ℕ
pins_so_far [] = 0
pins_so_far (Publishes position epoch ∷ before) = pins_so_far before + 1
pins_so_far (step ∷ before) = pins_so_far before

-- the word of this post
abbrev pub post_word : ℕ → List PinStep → ℕ
post_word post [] = 0
post_word post (Publishes position epoch ∷ before) = if eqb post position then posted epoch else post_word post before
post_word post (Unpins position ∷ before) = if eqb post position then 0 else post_word post before
post_word post (step ∷ before) = post_word post before

-- the last pin at this post: how many there were before it
abbrev pub pin_at : ℕ → List PinStep → ℕ
pin_at post [] = 0
pin_at post (Publishes position epoch ∷ before) = if eqb post position then pins_so_far before else pin_at post before
pin_at post (step ∷ before) = pin_at post before

-- how many pins there were when the clock came to this epoch; 0 if it hasn't
abbrev pub pins_before : ℕ → List PinStep → ℕ
pins_before epoch [] = 0
pins_before epoch (Ticks next ∷ before) = if eqb epoch next then pins_so_far before else pins_before epoch before
pins_before epoch (step ∷ before) = pins_before epoch before

-- What a step may be after these. A pin publishes an epoch that was loaded, however long ago; and a look tells of an
-- epoch that was loaded before it, however long ago.
abbrev pub MayFollow : List PinStep → PinStep → Type 0
MayFollow before (LoadsClock epoch) = epoch ≡ clock_after before
MayFollow before (Publishes position epoch) = IsOneOf (LoadsClock epoch) before
MayFollow before (Unpins position) = Unit {0}
MayFollow before (Ticks epoch) = epoch ≡ clock_after before + 1
MayFollow before (Looks clock position word) = IsOneOf (LoadsClock clock) before × (word ≡ post_word position before)

abbrev pub IsPinRun : List PinStep → Type 0
IsPinRun [] = Unit {0}
IsPinRun (step ∷ before) = MayFollow before step × IsPinRun before

-- no pin is of an epoch past the clock
abbrev pub PinsStayNear : Type 0
PinsStayNear = (run : List PinStep) (post : ℕ) → IsPinRun run → post_word post run ≤ 2 * clock_after run + 1

-- a pin that began before the clock came to an epoch is of an epoch before that
abbrev pub EarlierPinsAreOfEarlierEpochs : Type 0
EarlierPinsAreOfEarlierEpochs = (run : List PinStep) (post epoch : ℕ) → IsPinRun run → post_word post run ≢ 0
    → pin_at post run < pins_before epoch run → post_word post run < 2 * epoch

-- once a look has passed a post, after the clock came to this epoch, the pin that is there began since
abbrev pub PassedPinsAreLater : Type 0
PassedPinsAreLater = (run : List PinStep) (post epoch clock word : ℕ) → IsPinRun run → epoch ≤ clock
    → IsOneOf (Looks clock post word) run → Passes epoch word → post_word post run ≢ 0
    → pins_before epoch run ≤ pin_at post run

-- once looks have passed all posts, after the clock came to this epoch, each pin that is left began since
abbrev pub PinsFromBeforeAreOver : Type 0
PinsFromBeforeAreOver = (run : List PinStep) (epoch posts : ℕ) → IsPinRun run
    → PassesAll (λ step. IsOneOf step run) epoch posts
    → (post : ℕ) → post < posts → post_word post run ≢ 0 → pins_before epoch run ≤ pin_at post run
