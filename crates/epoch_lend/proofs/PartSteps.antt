-- The ghost steps of a part. Assumes `Logic`.
use Rattle.std.proofs.Common.{◌≡◌, ℕ, ◌+◌, ◌-◌, ◌^◌, ◌<◌, ◌≤◌, [], ◌∷◌, arith, subst}
use seplogic.Ra.Ura.{Ura}
use base.Fraction.{full_share}
use base.FractionLaws.{Counts, counts_some, Counts-op, Counts-all}
use base.Logic.{ent, sep}
use base.Fml.{Lft, Incl, Incl-trans, Share, Fml, fsep, fex, flft, flent}
use contract.BorrowLft.{meet_⊑_left, meet_⊑_right}
use types.Logic.{Logic, sem}
use types.Kit.{‵, ◌⊛◌, later, ◌$◌, ◌∵◌, !, qed, by, move, use1, use2, split, split3, join, fjoin, fpick, fpack, await}
use types.Kit.{updating, now, done}
use types.Tokens.{lft_new, lft_end, bor_new, lent_back}
use denote.Sharing.{ShrLaws}
use denote.Struct.Lending.{Lends}
use Rattle.epoch_lend.specs.Parted.{tokens}

module _ {M : Type 1} {𝓤 : Ura M} (𝓛 : Logic 𝓤) (a : ℕ) where
  open 𝓛 use {A}

  -- a share that counts as k parts is k parts
  pub tokens_in : (k : ℕ) (e : Share) → Counts 63 e k → ent 𝓤 (A.lft (a ∷ []) e) (sem 𝓛 (tokens a k))
  tokens_in k e c = qed 𝓛 (‵ (flft (a ∷ []) e) ∷ []) ∵ fpack ! (Counts 63 e k) (λ _. flft (a ∷ []) e) c $
      fpack ! Share (λ s. fex (Counts 63 s k) (λ _. flft (a ∷ []) s)) e $ done !

  -- parts are cut in two
  pub tokens_cut : (k i j : ℕ) → 0 < i → 0 < j → i + j ≡ k → k ≤ 2 ^ 63
      → ent 𝓤 (sem 𝓛 (tokens a k)) (sep 𝓤 (sem 𝓛 (tokens a i)) (sem 𝓛 (tokens a j)))
  tokens_cut k i j pi pj sum fits = let e = counts_some 63 i pi (omega arith) in
      let f = counts_some 63 j pj (omega arith) in
      qed 𝓛 (‵ (tokens a k) ∷ []) ∵ fpick ! (λ r. fpick ! (λ c.
      use1 𝓛 (‵ (flft (a ∷ []) e.0) ⊛ ‵ (flft (a ∷ []) f.0)) (𝓛.lfts.lft_cut (a ∷ []) r e.0 f.0 (Counts-op 63 e.0 f.0
      r i j k e.1 f.1 c sum)) $ split ! $
      move ! (1 ∷ []) $ use1 𝓛 (‵ (tokens a j)) (tokens_in j f.0 f.1) $ move ! (1 ∷ []) $
      use1 𝓛 (‵ (tokens a i)) (tokens_in i e.0 e.1) $ done !))

  -- parts that are put together are a share of as many
  glued : (i j : ℕ) (r : Share) → Counts 63 r (i + j)
      → ent 𝓤 (sep 𝓤 (sem 𝓛 (tokens a i)) (sem 𝓛 (tokens a j))) (A.lft (a ∷ []) r)
  glued i j r c = qed 𝓛 (‵ (tokens a i) ∷ ‵ (tokens a j) ∷ []) ∵ fpick ! (λ e. fpick ! (λ ce. move ! (1 ∷ []) $
      fpick ! (λ f. fpick ! (λ cf. move ! (1 ∷ []) $
      by ! (𝓛.lfts.lft_glue (a ∷ []) r e f (Counts-op 63 e f r i j (i + j) ce cf c Rattle.std.proofs.Common.refl))))))

  -- 2^63 parts are the whole token
  pub tokens_whole : ent 𝓤 (sem 𝓛 (tokens a (2 ^ 63))) (A.lft (a ∷ []) full_share)
  tokens_whole = qed 𝓛 (‵ (tokens a (2 ^ 63)) ∷ []) ∵
      use1 𝓛 (‵ (tokens a 1) ⊛ ‵ (tokens a (2 ^ 63 - 1))) (tokens_cut (2 ^ 63) 1 (2 ^ 63 - 1) (omega arith) (omega
      arith) (omega arith) (omega arith)) $ split ! $
      by ! (glued 1 (2 ^ 63 - 1) full_share (Counts-all 63))

module _ (t : Lft → Fml) (L : ShrLaws t) where
  abbrev pub Owns : ℕ → ℕ → Fml
  Owns a k = fsep (tokens a k) (t (a ∷ []))

  module _ {M : Type 1} {𝓤 : Ura M} (𝓛 : Logic 𝓤) where
    open 𝓛 use {H, A}

    abbrev pub Frozen : Fml → ℕ → Fml
    Frozen P a = fsep (flent (a ∷ []) P) (Owns a (2 ^ 63))

    -- what is owned is lent for a new lifetime, as 2^63 parts
    pub freezes : (P : Fml) (l μ : Lft) (q : Share) → Lends 𝓛 P t l → Incl μ l
        → ent 𝓤 (sep 𝓤 (sem 𝓛 P) (A.lft μ q)) (H.⇛ (sep 𝓤 (sem 𝓛 (fex ℕ (Frozen P))) (A.lft μ q)))
    freezes P l μ q lends inc = qed 𝓛 (‵ P ∷ ‵ (flft μ q) ∷ []) ∵ updating ! $ lft_new ! tt (λ a. move ! (1 ∷ []) $
        bor_new ! tt (a ∷ []) $
        move ! (2 ∷ 3 ∷ []) $ join ! $ move ! (1 ∷ 0 ∷ []) $
        use2 𝓛 (later (‵ (t (a ∷ [])) ⊛ ‵ (flft (a ∷ []) full_share) ⊛ ‵ (flft μ q)))
        (lends (a ∷ []) ((a ∷ [], full_share) ∷ (
          μ,
          q,
        ) ∷ []) (Incl-trans (meet_⊑_right (a ∷ []) μ) inc) (meet_⊑_left (a ∷ []) μ)) $ await ! tt $ split3 ! $
        move ! (1 ∷ []) $ use1 𝓛 (‵ (tokens a (2 ^ 63))) (tokens_in 𝓛 a (2 ^ 63) full_share (Counts-all 63)) $
        fjoin ! $ move ! (2 ∷ 0 ∷ []) $ fjoin ! $ fpack ! ℕ (Frozen P) a $ now ! $ done !)

    -- with all parts the lifetime ends, and what was lent is owned again
    pub thaws : (P : Fml) (a : ℕ) → ent 𝓤 (sep 𝓤 (sem 𝓛 (flent (a ∷ []) P)) (sem 𝓛 (tokens a (2 ^ 63)))) (H.⇛ (sem 𝓛 P))
    thaws P a = qed 𝓛 (‵ (flent (a ∷ []) P) ∷ ‵ (tokens a (2 ^ 63)) ∷ []) ∵ updating ! $ move ! (1 ∷ []) $
        use1 𝓛 (‵ (flft (a ∷ []) full_share)) (tokens_whole 𝓛 a) $ lft_end ! tt $ lent_back ! tt $ now ! $ done !
