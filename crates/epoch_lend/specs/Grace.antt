-- The steps of pins at posts, of the clock, and of looks at the posts.
use Rattle.std.specs.Prelude.{◌≡◌, ◌≢◌, ℕ, ◌*◌, ◌<◌, ◌≤◌, ◌↔◌, Bool, IsTrue}

-- one step of a domain
pub data PinStep : Type 0 where
  LoadsClock : (epoch : ℕ) → PinStep  -- the clock showed this epoch
  Publishes : (position epoch : ℕ) → PinStep  -- a pin began at this post, in this epoch
  Unpins : (position : ℕ) → PinStep  -- the pin at this post ended
  Ticks : (epoch : ℕ) → PinStep  -- the clock moved on, to this epoch
  Looks : (clock position word : ℕ) → PinStep  -- the clock had shown this epoch, and then this word was at this post

-- who looked at a post found it unpinned, or pinned in this epoch or a later one
abbrev pub Passes : (epoch word : ℕ) → Type 0
Passes epoch word = word ≢ 0 → 2 * epoch ≤ word

-- after the clock had shown an epoch, a look passed each of so many posts
abbrev pub AllPassed : (PinStep → Type 0) → (clock epoch posts : ℕ) → Type 0
AllPassed did clock epoch posts = (position : ℕ) → position < posts
    → (word : ℕ) × did (Looks clock position word) × Passes epoch word

-- the clock came to this epoch, or past it, and after that a look passed each of so many posts
abbrev pub PassesAll : (PinStep → Type 0) → (epoch posts : ℕ) → Type 0
PassesAll did epoch posts = (clock : ℕ) × (epoch ≤ clock) × AllPassed did clock epoch posts

-- the pin at a post ended, and one in this epoch began there
abbrev pub Repins : (PinStep → Type 0) → (position epoch : ℕ) → Type 0
Repins did position epoch = did (Unpins position) × did (Publishes position epoch)

-- the clock was loaded, and this tells whether it showed this epoch
abbrev pub TellsCurrent : (PinStep → Type 0) → (epoch : ℕ) → Bool → Type 0
TellsCurrent did epoch told = (shown : ℕ) × did (LoadsClock shown) × (IsTrue told ↔ (shown ≡ epoch))
