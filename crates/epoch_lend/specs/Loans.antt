-- What the word of a value holds while it is present: the token of the value's lifetime a, less what was lent to
-- guards, and the loans.
use Rattle.std.specs.Prelude.{◌≡◌, ◌≢◌, ℕ, zero, suc, ◌*◌, eqb, leb, not, ◌&&◌, ◌||◌, List, [], ◌∷◌, length}
use Rattle.std.specs.Prelude.{Option, Some, None}
use mathlib.Core.Bool.{Bool, true, false}
use base.Share
use base.Fraction.{full_share}
use base.Stored.{Coded, coded×, coded_ℕ, coded_via, Gv, gnum, gcons}
use base.Fml.{Lft, GName, Share, Fml, ftrue, ffalse, fsep, fex, fall, flft, fdead, fobs, fauth, flent}
use denote.RattleType.{RattleType}
use denote.RawPtr.{Ptr}
use denote.Struct.Lending.{lent_at}
use Rattle.epoch_lend.specs.Posts.{is_among, posted, entered}

-- what is left of the token after n loans, and what the next loan takes: each loan takes half of what is left
abbrev pub left_after : ℕ → Share
left_after zero = full_share
left_after (suc n) = Share.right (left_after n)

abbrev pub loan_share : ℕ → Share
loan_share n = Share.left (left_after n)

-- which loan a pocket has: none yet, or the n-th of the token of a
abbrev pub no_loan : Gv
no_loan = gcons (gnum 0) (gnum 0)

abbrev pub nth_loan : ℕ → ℕ → Gv
nth_loan a n = gcons (gnum (suc n)) (gnum a)

-- What a guard borrows for its own lifetime before it looks: nothing yet, or a loan of the value that it finds. The
-- name δ says which.
abbrev pub filled_pocket : ℕ → GName → ℕ → Fml
filled_pocket a δ n = fsep (fobs δ (nth_loan a n)) (flft (a ∷ []) (loan_share n))

abbrev pub pocket_with : GName → ℕ × ℕ → Fml
pocket_with δ l = filled_pocket l.0 δ l.1

abbrev pub pocket_case : GName → Bool → Fml
pocket_case δ true = fobs δ no_loan
pocket_case δ false = fex (ℕ × ℕ) (pocket_with δ)

abbrev pub pocket : GName → Fml
pocket δ = fex Bool (pocket_case δ)

-- a loan: the atom of the guard's lifetime, its epoch, the log of its post, and the name of its pocket
pub record Loan : Type 0 where
  pub atom : ℕ
  pub epoch : ℕ
  pub log : ℕ
  pub pocket_name : ℕ

abbrev pub loan_coded : Coded Loan
loan_coded = coded_via (coded× coded_ℕ (coded× coded_ℕ (coded× coded_ℕ coded_ℕ))) (λ (l : Loan). (
  l.atom,
  (
    l.epoch,
    (l.log, l.pocket_name),
  ),
)) (λ x y e i. record {
  atom = (e i).0;
  epoch = (e i).1.0;
  log = (e i).1.1.0;
  pocket_name
      = (e i).1.1.1;
})

-- the n-th loan: once the guard's lifetime is over the pocket comes back, and it holds the n-th share
abbrev pub loan : ℕ → ℕ → Loan → Fml
loan a n l = fsep (flent (l.atom ∷ []) (pocket l.pocket_name)) (fsep (fauth l.pocket_name (nth_loan a n))
    (entered (l.atom, l.epoch) l.log))

abbrev pub loans : ℕ → List Loan → Fml
loans a [] = ftrue
loans a (l ∷ ls) = fsep (loan a (length ls) l) (loans a ls)

abbrev pub stock : ℕ → List Loan → Fml
stock a ls = fsep (flft (a ∷ []) (left_after (length ls))) (loans a ls)

-- a look at a post: its log, and the word found
abbrev pub SeenPost : Type 0
SeenPost = ℕ × ℕ

-- the look was at the post of the loan's guard, and found another word than that of the guard's epoch
abbrev pub Shows : SeenPost → Loan → Type 0
Shows s l = (l.log ≡ s.0) × (s.1 ≢ posted l.epoch)

-- what a look tells of these loans: the guards of which it shows that they are over
abbrev pub shown_by : SeenPost → List Loan → Fml
shown_by s [] = ftrue
shown_by s (l ∷ ls) = fsep (fall (Shows s l) (λ _. fdead (l.atom ∷ []))) (shown_by s ls)

abbrev pub all_shown : List SeenPost → List Loan → Fml
all_shown [] ls = ftrue
all_shown (s ∷ ss) ls = fsep (shown_by s ls) (all_shown ss ls)

-- one of these looks shows that the loan's guard is over
abbrev pub shows : SeenPost → Loan → Bool
shows s l = eqb l.log s.0 && not (eqb s.1 (posted l.epoch))

abbrev pub is_shown : List SeenPost → Loan → Bool
is_shown [] l = false
is_shown (s ∷ ss) l = shows s l || is_shown ss l

-- of each loan one of these looks shows it
abbrev pub are_shown : List SeenPost → List Loan → Bool
are_shown ss [] = true
are_shown ss (l ∷ ls) = is_shown ss l && are_shown ss ls

abbrev pub AreShown : List SeenPost → List Loan → Type 0
AreShown ss ls = are_shown ss ls ≡ true

-- each loan went to a guard of one of these posts
abbrev pub are_within : List ℕ → List Loan → Bool
are_within ηs [] = true
are_within ηs (l ∷ ls) = is_among l.log ηs && are_within ηs ls

abbrev pub Within : List ℕ → List Loan → Type 0
Within ηs ls = are_within ηs ls ≡ true

-- one of these looks was at this post, and found a word that passes
abbrev pub was_seen : (ℕ → Bool) → ℕ → List SeenPost → Bool
was_seen passes η [] = false
was_seen passes η (s ∷ ss) = (eqb η s.0 && passes s.1) || was_seen passes η ss

abbrev pub each_seen : (ℕ → Bool) → List ℕ → List SeenPost → Bool
each_seen passes [] ss = true
each_seen passes (η ∷ ηs) ss = was_seen passes η ss && each_seen passes ηs ss

abbrev pub EachSeen : (ℕ → Bool) → List ℕ → List SeenPost → Type 0
EachSeen passes ηs ss = each_seen passes ηs ss ≡ true

-- a post with this word isn't pinned, or is in an epoch before the seal
abbrev pub is_sealed : ℕ → ℕ → Bool
is_sealed seal found = leb found (2 * seal)

-- a post with this word isn't pinned, or is in the seal's epoch or a later one
abbrev pub is_past : ℕ → ℕ → Bool
is_past seal found = eqb found 0 || leb (2 * seal) found

-- what a word is of: where its value lies, the value, and the atom of the lifetime that it is lent for
pub record Shown (T : Type 0) : Type 0 where
  pub at : Ptr
  pub value : T
  pub lifetime : ℕ
  -- the logs of the posts whose guards may look
  pub posts : List ℕ

module _ (R : RattleType) (d : Shown R.Denot) where
  abbrev pub shown_at : Lft → Fml
  shown_at = lent_at R d.at d.value

-- the right that a look gained: none, or to see the value that it found for β
abbrev pub sees : Lft → (R : RattleType) → Ptr → Option R.Denot → Fml
sees β R p (Some x) = lent_at R p x β
sees β R p None = ffalse

abbrev pub glance_owns : Lft → (R : RattleType) → Ptr → Option R.Denot → ℕ → Fml
glance_owns β R p v zero = ftrue
glance_owns β R p v (suc k) = sees β R p v

-- what a mark took out, with what was seen of its loans since
abbrev pub marked_owns : (R : RattleType) → Ptr → R.Denot → ℕ → ℕ → List Loan → List SeenPost → Fml
marked_owns R p x a zero ls ss = ftrue
marked_owns R p x a (suc k) ls ss = fsep (stock a ls) (fsep (lent_at R p x (a ∷ [])) (all_shown ss ls))
