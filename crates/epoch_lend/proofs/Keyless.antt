-- What a word lends names no thread's token.
use Rattle.std.proofs.Common.{ℕ, zero, suc, List, [], ◌∷◌}
use mathlib.Core.Bool.{Bool, true, false}
use base.Growing.{latest, at_least}
use base.Shift.{Keyless}
use denote.RattleType.{RattleType}
use denote.RawPtr.{Ptr}
use denote.Param.Send.{IsSync}
use Rattle.std_alloc.proofs.SendSync.{seen}
use Rattle.epoch_lend.specs.Posts.{Entry, entered, are_over, PostNames, idle, out, at_post}
use Rattle.epoch_lend.specs.Watching.{entries, watch_owns}
use Rattle.epoch_lend.specs.Loans.{
  pocket_case,
  Loan,
  loans,
  marked_owns,
  SeenPost,
  shown_by,
  all_shown,
}

-- nor does a pocket
pocket_keyless : (δ : ℕ) (y : Bool) → Keyless (pocket_case δ y)
pocket_keyless δ true = tt
pocket_keyless δ false = λ l. (tt, tt)

-- nor does the entry of a pin
pub entered_keyless : (g : Entry) (η : ℕ) → Keyless (entered g η)
unfolding at_least
entered_keyless g η = λ ks. (tt, λ _. tt)

-- nor do loans
pub loans_keyless : (a : ℕ) (ls : List Loan) → Keyless (loans a ls)
loans_keyless a [] = tt
loans_keyless a (l ∷ ls) = (
  (pocket_keyless l.pocket_name, (tt, entered_keyless (l.atom, l.epoch) l.log)),
  loans_keyless a ls,
)

-- nor does what one look told
shown_keyless : (s : SeenPost) (ls : List Loan) → Keyless (shown_by s ls)
shown_keyless s [] = tt
shown_keyless s (l ∷ ls) = ((λ _. tt), shown_keyless s ls)

-- nor does what all looks told
all_shown_keyless : (ss : List SeenPost) (ls : List Loan) → Keyless (all_shown ss ls)
all_shown_keyless [] ls = tt
all_shown_keyless (s ∷ ss) ls = (shown_keyless s ls, all_shown_keyless ss ls)

-- nor does a watch
entries_keyless : (ls : List Loan) → Keyless (entries ls)
entries_keyless [] = tt
entries_keyless (l ∷ ls) = (entered_keyless (l.atom, l.epoch) l.log, entries_keyless ls)

-- nor does all that a watch owns: its loans' entries, and what looks told
pub watch_keyless : (ls : List Loan) (ss : List SeenPost) → Keyless (watch_owns ls ss)
watch_keyless ls ss = (entries_keyless ls, all_shown_keyless ss ls)

-- nor does what a mark took out
pub marked_keyless : (R : RattleType) → IsSync R
    → (p : Ptr) (x : R.Denot) (a k : ℕ) (ls : List Loan) (ss : List SeenPost) → Keyless (marked_owns R p x a k ls ss)
marked_keyless R y p x a zero ls ss = tt
marked_keyless R y p x a (suc k) ls ss = ((tt, loans_keyless a ls), (seen R y p x (a ∷ []), all_shown_keyless ss ls))

-- nor do pins that are over
pub over_keyless : (gs : List Entry) → Keyless (are_over gs)
over_keyless [] = tt
over_keyless (g ∷ gs) = (tt, over_keyless gs)

-- nor does a post
pub post_keyless : (d : PostNames) (n : ℕ) → Keyless (at_post d n)
unfolding latest
post_keyless d n idle = ((λ _. tt), (tt, λ gs. (tt, over_keyless gs)))
post_keyless d n (out g) = ((λ _. tt), (tt, λ gs. (tt, over_keyless gs)))
