-- The word of a place that values take turns at. It is four times the turn, and the state: vacant, claimed by who
-- places a value, shown to who looks, or removed. A log has the value of each turn so far, with the atom of the
-- lifetime that it was lent for.
use Rattle.std.proofs.Math.Nat.{ℕ_set, ne_of_lt, lt_trans}
use Rattle.std.proofs.Math.Numerals.{lt-add-one}
use Rattle.std.proofs.Common.{inl, inr, sym, ap, ◌∙◌}
use Rattle.std.specs.Prelude.{◌≡◌, ◌⊎◌, ℕ, zero, suc, ◌+◌, ◌*◌, List, [], ◌∷◌, ◌++◌, length, Option, Some, None}
use base.Fraction.{full_share}
use base.Stored.{Coded, coded×, coded_ℕ, coded_list, coded_via, gnum}
use base.Fml.{Lft, Fml, ftrue, ffalse, fsep, fex, froom, fwand, fobs, fauth, fbor, flent}
use base.Growing.{Order, prefixes, latest, at_least}
use denote.RattleType.{RattleType}
use mir.Syntax.{Ty, w64, ty_int, ty_struct, tcons, tnil}
use mir.Raw.{raw}
use denote.Memory.{lone}
use denote.RawPtr.{Ptr, InBlock, block_of, count_of, coded_ptr, lies_at, room_for, ◌+ₚ◌}
use denote.Sharing.{said, beside, some, ends, always}
use prog.Memory.{align, up}
use denote.Struct.Lending.{lent_at}
use Rattle.core.specs.Sync.RawAtomic.{word}
use Rattle.epoch_lend.specs.Posts.{known}
use Rattle.epoch_lend.specs.Loans.{Loan, stock, Within}

-- what names a place: where its memory lies and where its values do, the log of their turns, who has the word, and
-- whose guards may look
pub record TurnNames : Type 0 where
  pub at : Ptr
  pub value : Ptr
  pub log : ℕ
  pub state : ℕ
  pub posts : List ℕ

abbrev pub turn_names_coded : Coded TurnNames
turn_names_coded = coded_via (coded× coded_ptr (coded× coded_ptr (coded× coded_ℕ (coded× coded_ℕ (coded_list
    coded_ℕ))))) (λ (d : TurnNames). (d.at, (d.value, (d.log, (d.state, d.posts))))) (λ x y e i. record {
      at = (e i).0;
      value = (e i).1.0;
      log = (e i).1.1.0;
      state = (e i).1.1.1.0;
      posts = (e i).1.1.1.1;
    })

-- the state at a turn
pub data TurnStage : Type 0 where
  vacant : ℕ → TurnStage
  claimed : ℕ → TurnStage
  shown : ℕ → TurnStage
  removed : ℕ → TurnStage

abbrev pub turn_word : TurnStage → ℕ
turn_word (vacant turn) = 4 * turn
turn_word (claimed turn) = 4 * turn + 1
turn_word (shown turn) = 4 * turn + 2
turn_word (removed turn) = 4 * turn + 3

-- the word that a caller left at a place where it may show a value at this turn: it claimed the place, or it removed
-- the value of the turn before and took it out
abbrev pub Awaits : ℕ → ℕ → Type 0
Awaits turn word = (word ≡ 4 * turn + 1) ⊎ (word + 1 ≡ 4 * turn)

-- it did one of both, and not the other
not_both : (turn n : ℕ) → n ≡ 4 * turn + 1 → n + 1 ≡ 4 * turn → ⊥
not_both turn n claim removal =
    ne_of_lt (lt_trans (lt-add-one n) (lt-add-one (n + 1))) (claim ∙ ap (λ (x : ℕ). x + 1) (sym removal))

pub awaits_prop : (turn n : ℕ) → IsProp (Awaits turn n)
awaits_prop turn n (inl x) (inl y) = ap inl (ℕ_set n (4 * turn + 1) x y)
awaits_prop turn n (inl x) (inr y) = absurd (not_both turn n x y)
awaits_prop turn n (inr x) (inl y) = absurd (not_both turn n y x)
awaits_prop turn n (inr x) (inr y) = ap inr (ℕ_set (n + 1) (4 * turn) x y)

-- the value of a turn, and the atom of the lifetime that it is lent for
abbrev pub TurnOf : Type 0 → Type 0
TurnOf X = X × ℕ

-- the values of the turns so far, which only grow
abbrev pub turn_logs : (R : RattleType) → Order (List (TurnOf R.Denot))
turn_logs R = prefixes (coded× R.coded coded_ℕ)

abbrev pub is_turn : (R : RattleType) → ℕ → ℕ → TurnOf R.Denot → List (TurnOf R.Denot) → Fml
is_turn R log turn e before = fsep (at_least (turn_logs R) log (before ++ e ∷ [])) (known (length before ≡ turn))

-- this is the value of this turn
abbrev pub turn_is : (R : RattleType) → ℕ → ℕ → TurnOf R.Denot → Fml
turn_is R log turn e = fex (List (TurnOf R.Denot)) (is_turn R log turn e)

abbrev pub turn_shares : (R : RattleType) → ℕ → ℕ → TurnOf R.Denot → Lft → Fml
turn_shares R log turn e = said (turn_is R log turn e)

-- where the value lies in the memory of a place, which begins with the word
abbrev pub value_in : RattleType → Ptr → Ptr
value_in R p = p +ₚ up (align (lone R.mir)) 8

-- the memory of a place, at the type as the machine sees it
abbrev pub place_type : RattleType → Ty
place_type R = ty_struct [] (tcons (ty_int w64) (tcons (raw (lone R.mir)) tnil))

-- room for the word and room for the value are the memory of a place again
abbrev pub memory_back : RattleType → ℕ → ℕ → Fml
memory_back R b o = fwand (fsep (froom (ty_int w64) b (o + 0)) (fsep (froom (raw (lone R.mir)) b (o + up (align (lone
    R.mir)) 8)) ftrue)) (froom (place_type R) b o)

-- room for a value, at the type as the machine sees it, as a box has it
abbrev pub turn_room_of : (R : RattleType) → Ptr → Fml
turn_room_of R p = room_for (raw (lone R.mir)) p

-- the right of who has the word, and room for a value
abbrev pub claim_has : (R : RattleType) → Ptr → ℕ → ℕ → Fml
claim_has R p state n = fsep (fobs state (gnum n)) (turn_room_of R p)

abbrev pub claim_of : (R : RattleType) → Ptr → ℕ → ℕ → ℕ → Fml
claim_of R p state n zero = ftrue
claim_of R p state n (suc k) = claim_has R p state n

-- the right of who has the word, and all of the value
abbrev pub filled_has : (R : RattleType) → Ptr → ℕ → ℕ → R.Denot → Fml
filled_has R p state n x = fsep (fobs state (gnum n)) (lies_at R full_share p x)

-- the right of who removed a value: the word, and the value once its lifetime is over
abbrev pub vacancy_has : (R : RattleType) → Ptr → ℕ → ℕ → TurnOf R.Denot → Fml
vacancy_has R p state n e = fsep (fobs state (gnum n)) (flent (e.1 ∷ []) (lies_at R full_share p e.0))

abbrev pub vacancy_of : (R : RattleType) → Ptr → ℕ → ℕ → TurnOf R.Denot → ℕ → Fml
vacancy_of R p state n e zero = ftrue
vacancy_of R p state n e (suc k) = vacancy_has R p state n e

-- which value a look found at a turn: none, or this one
abbrev pub found_some : (R : RattleType) → ℕ → ℕ → ℕ → Option R.Denot → Fml
found_some R log turn lifetime (Some x) = turn_is R log turn (x, lifetime)
found_some R log turn lifetime None = ffalse

abbrev pub found_of : (R : RattleType) → ℕ → ℕ → ℕ → Option R.Denot → ℕ → Fml
found_of R log turn lifetime v zero = ftrue
found_of R log turn lifetime v (suc k) = found_some R log turn lifetime v

module _ (R : RattleType) (d : TurnNames) where
  abbrev pub log_of : ℕ → List (TurnOf R.Denot) → Fml
  log_of turns es = fsep (latest (turn_logs R) full_share d.log es) (known (length es ≡ turns))

  abbrev pub turns_so_far : ℕ → Fml
  turns_so_far turns = fex (List (TurnOf R.Denot)) (log_of turns)

  -- what is lent of a value that is shown: the token of its lifetime less its loans, and the value itself after it
  abbrev pub lent_with : TurnOf R.Denot → List Loan → Fml
  lent_with e ls = fsep (fsep (stock e.1 ls) (fsep (lent_at R (value_in R d.at) e.0 (e.1 ∷ [])) (known (Within
      d.posts ls))))
      (flent (e.1 ∷
      []) (lies_at R full_share (value_in R d.at) e.0))

  abbrev pub lent_of : TurnOf R.Denot → Fml
  lent_of e = fex (List Loan) (lent_with e)

  abbrev pub shown_with : ℕ → List (TurnOf R.Denot) × TurnOf R.Denot → Fml
  shown_with turn s = fsep (latest (turn_logs R) full_share d.log (s.0 ++ s.1 ∷ [])) (fsep (known (length s.0 ≡ turn))
      (lent_of s.1))

  abbrev pub turn_holds : TurnStage → Fml
  turn_holds (vacant turn) = fsep (fobs d.state (gnum (4 * turn))) (fsep (turns_so_far turn) (turn_room_of R
      (value_in R d.at)))
  turn_holds (claimed turn) = turns_so_far turn
  turn_holds (shown turn) = fsep (fobs d.state (gnum (4 * turn + 2))) (fex (List (TurnOf R.Denot) × TurnOf R.Denot)
      (shown_with turn))
  turn_holds (removed turn) = turns_so_far (suc turn)

  abbrev pub at_turn : ℕ → TurnStage → Fml
  at_turn n s = fsep (known (n ≡ turn_word s)) (fsep (fauth d.state (gnum n)) (turn_holds s))

  abbrev pub at_turn_word : ℕ → Fml
  at_turn_word n = fex TurnStage (at_turn n)

  -- the word at this place in memory, with what it says
  abbrev pub turns_at : ℕ → ℕ → Fml
  turns_at b o = fex ℕ (λ n. fsep (word b (o + 0) n) (at_turn_word n))

  abbrev pub turns_here : Fml
  turns_here = turns_at (block_of d.at) (count_of d.at)

  -- the place isn't null, and its values lie behind its word
  abbrev pub LiesThere : Type 0
  LiesThere = InBlock d.at × (d.value ≡ value_in R d.at)

  abbrev pub lies_there : Fml
  lies_there = fex LiesThere (λ _. ftrue)

  -- what the place holds beside its bytes, of which there are none
  abbrev pub turns_own : Fml → Fml
  turns_own bytes = fsep bytes (fsep lies_there (fsep turns_here (memory_back R (block_of d.at) (count_of d.at))))

  abbrev pub turns_share : Lft → Fml
  turns_share = beside (said lies_there) (some Lft (λ α. beside (ends α) (always (fbor α turns_here))))
