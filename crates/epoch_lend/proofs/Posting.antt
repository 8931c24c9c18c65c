-- The steps on a post's word, under its invariant. Assumes `Logic`.
use Rattle.std.proofs.Common.{◌≡◌, ◌≢◌, ℕ, suc, ◌+◌, List, [], ◌∷◌, ◌++◌, sym, refl, ap, ◌∙◌, inl, inr}
use native.Mathlib.Nat.{suc-ne-zero}
use native.Mathlib.Omega.{arith}
use seplogic.Ra.Ura.{Ura}
use base.Fraction.{full_share}
use base.Stored.{gnum, num}
use base.Growing.{latest, at_least}
use base.Logic.{SProp, ent, sep, ex, upd, upd_i}
use base.Fml.{Lft, Share, Fml, ftrue, fsep, flft, fdead, fobs, fauth, fbor}
use types.Logic.{Logic, sem}
use types.Kit.{‵, raw, ◌⊛◌, given, ◌$◌, ◌∵◌, !, qed, by, move, drop, split, split3, fsplit, fsplit3, fjoin, fjoin3}
use types.Kit.{fpick, fpack, learn, show, frame, each, assume, suffices, settle, use1, use2, use3, rewrite, done}
use types.Growing.{latest_grows, latest_shows}
use denote.RawPtr.{block_ptr}
use denote.Steps.{nothing}
use Rattle.core.specs.Sync.RawAtomic.{asks, always, word}
use Rattle.core.proofs.raw_atomic.Asked.{borrowed, Lies, Again}
use Rattle.epoch_lend.specs.Posts.{
  IsOneOf,
  Entry,
  posted,
  logs,
  entered,
  entered_in,
  are_over,
  PostNames,
  PostStage,
  idle,
  out,
  idle_log,
  out_log,
  at_stage,
  at_post,
  post,
}
use Rattle.epoch_lend.specs.Loans.{Loan, shown_by}
use Rattle.epoch_lend.proofs.Loans.{over_snoc, all_entered, tells}

-- the last pin is one of the pins
is_last : (g : Entry) (gs : List Entry) → IsOneOf g (gs ++ g ∷ [])
is_last g [] = inl refl
is_last g (h ∷ hs) = inr (is_last g hs)

-- of these pins, one that isn't the last is one of those before
not_last : (g last : Entry) (gs : List Entry) → g ≢ last → IsOneOf g (gs ++ last ∷ []) → IsOneOf g gs
not_last g last [] differs (inl e) = absurd (differs e)
not_last g last [] differs (inr x) = elim x [ ]
not_last g last (h ∷ hs) differs (inl e) = inl e
not_last g last (h ∷ hs) differs (inr i) = inr (not_last g last hs differs i)

module _ {M : Type 1} {𝓤 : Ura M} (𝓛 : Logic 𝓤) (d : PostNames) where
  open 𝓛 use {H, A}

  abbrev Pr : Type 2
  Pr = SProp 𝓤

  abbrev ◌⊢◌ : Pr → Pr → Type 1
  P ⊢ Q = ent 𝓤 P Q

  abbrev ◌∗◌ : Pr → Pr → Pr
  P ∗ Q = sep 𝓤 P Q

  abbrev ⟦◌⟧ : Fml → Pr
  ⟦ P ⟧ = sem 𝓛 P

  infix 26 ◌⊢◌
  infixr 35 ◌∗◌
  abbrev η : ℕ
  η = d.log

  abbrev δ : ℕ
  δ = d.state

  module _ (α : Lft) (q : Share) (b o : ℕ) where
    abbrev pub Memory : Fml
    Memory = post d b o

    -- one step under the post's invariant
    stepped : (f : ℕ → ℕ) (after : ℕ → Fml) (K : Fml) → ((n : ℕ)
        → ⟦ at_post d n ⟧ ∗ ⟦ K ⟧ ⊢ upd 𝓤 (⟦ at_post d (f n) ⟧ ∗ ⟦ after n ⟧))
        → A.inv (fbor α Memory) ∗ (A.lft α q ∗ ⟦ K ⟧) ⊢ asks 𝓛 (block_ptr b (o + 0)) f always (λ n. fsep (flft α q)
        (after
        n))
    stepped f after K law = let e : ℕ = o + 0 in
        let G : Pr = ex 𝓤 (Lies 𝓛 α q Memory b e f always after) in borrowed 𝓛 α q Memory b e f always after ⟦ K ⟧ (
        qed 𝓛 (‵ Memory ∷ ‵ K ∷ []) ∵ suffices ! _ (upd_i 𝓤 G) $ fpick ! (λ n. fsplit ! $
        let Goal : Pr = ⟦ Memory ⟧ ∗ ⟦ after n ⟧ in
        show ! (Lies 𝓛 α q Memory b e f always after) n $ frame ! $
        each ! (λ (_ : Unit {0}). Again 𝓛 α q Memory b e f always after n) (λ _. assume ! (‵ (word b e (f n))) $
        move ! (1 ∷ 2 ∷ []) $
        use2 𝓛 (raw (upd 𝓤 (⟦ at_post d (f n) ⟧ ∗ ⟦ after n ⟧))) (law n) $
        settle 𝓛 Goal (‵ (at_post d (f n)) ⊛ ‵ (after n)) $ split ! $ suffices ! _ (upd_i 𝓤 Goal) $
        move ! (2 ∷ 0 ∷ []) $ fjoin ! $ fpack ! ℕ (λ m. fsep (word b e m) (at_post d m)) (f n) $ done !)))

    -- a pin registers the new guard's atom
    module _ (γ epoch : ℕ) where
      abbrev pin_of : Entry
      pin_of = (γ, epoch)

      abbrev pub pinned : Fml
      pinned = fsep (fobs δ (gnum (suc γ))) (entered pin_of η)

      -- the pin at an idle post; at another one the right to pin would be out twice
      pin : (n : ℕ) (p : PostStage)
          → ⟦ at_stage d n p ⟧ ∗ ⟦ fobs δ (gnum 0) ⟧ ⊢ upd 𝓤 (⟦ at_post d (posted epoch) ⟧ ∗ ⟦ pinned ⟧)
      pin n (out g) = qed 𝓛 (‵ (at_stage d n (out g)) ∷ ‵ (fobs δ (gnum 0)) ∷ []) ∵ fsplit3 ! $ move ! (3 ∷ 1 ∷ []) $
          use2 𝓛 (given (gnum 0 ≡ gnum (suc g.0)) (‵ (fobs δ (gnum 0)) ⊛ ‵ (fauth δ (gnum (suc g.0)))))
          (𝓛.names.name_agree δ (gnum 0) (gnum (suc g.0))) $
          learn ! (λ e. absurd (suc-ne-zero g.0 (ap num (sym e))))
      pin n idle = let u = gnum (suc γ) in
          let Goal : Pr = ⟦ at_post d (posted epoch) ⟧ ∗ ⟦ pinned ⟧ in
          qed 𝓛 (‵ (at_stage d n idle) ∷ ‵ (fobs δ (gnum 0)) ∷ []) ∵ fsplit3 ! $ drop ! $ move ! (2 ∷ 0 ∷ []) $
          use2 𝓛 (raw (upd 𝓤 (A.obs δ u ∗ A.auth δ u))) (𝓛.names.name_set_upd δ (gnum 0) (gnum 0) u) $
          settle 𝓛 Goal (‵ (fobs δ u) ⊛ ‵ (fauth δ u)) $ split ! $ move ! (2 ∷ []) $
          fpick ! (λ gs. let hs : List Entry = gs ++ pin_of ∷ [] in fsplit ! $
          use1 𝓛 (raw (upd 𝓤 ⟦ latest logs full_share η hs ⟧)) (latest_grows logs 𝓛 η gs hs (pin_of ∷ [], refl)) $
          settle 𝓛 Goal (‵ (latest logs full_share η hs)) $ suffices ! Goal (upd_i 𝓤 Goal) $
          use1 𝓛 (‵ (latest logs full_share η hs) ⊛ ‵ (at_least logs η hs)) (latest_shows logs 𝓛 full_share η hs hs
          (logs.same hs)) $ split ! $
          -- [latest; at_least; over; obs; auth]
          move ! (0 ∷ 2 ∷ []) $ fjoin ! $ fpack ! (List Entry) (out_log η pin_of) gs $ move ! (3 ∷ 0 ∷ []) $
          fjoin ! $ nothing ! $ fpack ! (posted epoch ≡ posted epoch) (λ _. ftrue) refl $ fjoin ! $
          fpack ! PostStage (at_stage d (posted epoch)) (out pin_of) $ frame ! $
          nothing ! $ fpack ! (IsOneOf pin_of hs) (λ _. ftrue) (is_last pin_of gs) $ move ! (1 ∷ 0 ∷ []) $ fjoin ! $
          fpack ! (List Entry) (entered_in pin_of η) hs $ move ! (1 ∷ 0 ∷ []) $ fjoin ! $ done !)

      -- one store pins
      pub pins : A.inv (fbor α Memory) ∗ (A.lft α q ∗ ⟦ fobs δ (gnum 0) ⟧) ⊢ asks 𝓛 (block_ptr b (o + 0)) (λ _. posted
          epoch) always (λ n. fsep (flft α q) pinned)
      pins = stepped (λ _. posted epoch) (λ _. pinned) (fobs δ (gnum 0)) (λ n. qed 𝓛 (‵ (at_post d n) ∷ ‵ (fobs δ
          (gnum 0)) ∷ []) ∵ fpick ! (λ p. by ! (pin n p)))

      -- an unpin tells the post that the guard is over
      abbrev pub Spent : Fml
      Spent = fsep (fobs δ (gnum (suc γ))) (fdead (γ ∷ []))

      -- the end of a pin at a post that is pinned; at an idle one the right to end would be out twice
      unpin : (n : ℕ) (p : PostStage) → ⟦ at_stage d n p ⟧ ∗ ⟦ Spent ⟧ ⊢ upd 𝓤 (⟦ at_post d 0 ⟧ ∗ ⟦ fobs δ (gnum 0) ⟧)
      unpin n idle = qed 𝓛 (‵ (at_stage d n idle) ∷ ‵ Spent ∷ []) ∵ fsplit3 ! $ move ! (3 ∷ []) $ fsplit ! $
          move ! (0 ∷ 3 ∷ []) $
          use2 𝓛 (given (gnum (suc γ) ≡ gnum 0) (‵ (fobs δ (gnum (suc γ))) ⊛ ‵ (fauth δ (gnum 0))))
          (𝓛.names.name_agree δ (gnum (suc γ)) (gnum 0)) $ learn ! (λ e. absurd (suc-ne-zero γ (ap num e)))
      unpin n (out g) = let Goal : Pr = ⟦ at_post d 0 ⟧ ∗ ⟦ fobs δ (gnum 0) ⟧ in
          qed 𝓛 (‵ (at_stage d n (out g)) ∷ ‵ Spent ∷ []) ∵ fsplit3 ! $ drop ! $ move ! (2 ∷ []) $ fsplit ! $
          move ! (0 ∷ 2 ∷ []) $
          use2 𝓛 (given (gnum (suc γ) ≡ gnum (suc g.0)) (‵ (fobs δ (gnum (suc γ))) ⊛ ‵ (fauth δ (gnum (suc g.0)))))
          (𝓛.names.name_agree δ (gnum (suc γ)) (gnum (suc g.0))) $ learn ! (λ e. split ! $
          use2 𝓛 (raw (upd 𝓤 (A.obs δ (gnum 0) ∗ A.auth δ (gnum 0)))) (𝓛.names.name_set_upd δ (gnum (suc γ)) (gnum
          (suc g.0)) (gnum 0)) $ settle 𝓛 Goal (‵ (fobs δ (gnum 0)) ⊛ ‵ (fauth δ (gnum 0))) $ split ! $
          suffices ! Goal (upd_i 𝓤 Goal) $
          let same : γ ≡ g.0 = omega (arith, ap num e) in move ! (2 ∷ []) $
          rewrite ! 0 (λ (k : ℕ). ‵ (fdead (k ∷ []))) same refl $ move ! (3 ∷ []) $ fpick ! (λ gs. fsplit ! $
          -- [latest; over; dead; obs; auth]
          move ! (1 ∷ 2 ∷ []) $ use2 𝓛 (‵ (are_over (gs ++ g ∷ []))) (over_snoc 𝓛 0 gs g) $ move ! (1 ∷ 0 ∷ []) $
          fjoin ! $ fpack ! (List Entry) (idle_log η) (gs ++ g ∷ []) $ move ! (2 ∷ 0 ∷ []) $ fjoin ! $
          nothing ! $ fpack ! (0 ≡ 0) (λ _. ftrue) refl $ fjoin ! $ fpack ! PostStage (at_stage d 0) idle $ done !))

      -- one store ends a pin
      pub unpins : A.inv (fbor α Memory) ∗ (A.lft α q ∗ ⟦ Spent ⟧) ⊢ asks 𝓛 (block_ptr b (o + 0)) (λ _. 0) always (λ n.
          fsep (flft α q) (fobs δ (gnum 0)))
      unpins = stepped (λ _. 0) (λ _. fobs δ (gnum 0)) Spent (λ n. qed 𝓛 (‵ (at_post d n) ∷ ‵ Spent ∷ []) ∵ fpick !
          (λ p. by ! (unpin n p)))

    -- a plain load tells of each loan at this post whose guard's epoch the word found isn't of
    module _ (a : ℕ) (ls : List Loan) where
      abbrev pub Seen : ℕ → Fml
      Seen n = shown_by (η, n) ls

      -- what the word found tells, at an idle post and at one that is pinned
      look : (n : ℕ) (p : PostStage) → ⟦ at_stage d n p ⟧ ∗ ⟦ all_entered 𝓛 a ls ⟧ ⊢ upd 𝓤 (⟦ at_post d n ⟧ ∗ ⟦ Seen n
          ⟧)
      look n idle = let Goal : Pr = ⟦ at_post d n ⟧ ∗ ⟦ Seen n ⟧ in qed 𝓛 (‵ (at_stage d n idle) ∷ ‵ (all_entered 𝓛 a
          ls) ∷ []) ∵ suffices ! Goal (upd_i 𝓤 Goal) $ fsplit3 ! $ move ! (2 ∷ []) $ fpick ! (λ gs. fsplit ! $
          move ! (0 ∷ 1 ∷ 4 ∷ []) $
          use3 𝓛 (‵ (latest logs full_share η gs) ⊛ ‵ (are_over gs) ⊛ ‵ (Seen n)) (tells 𝓛 a η n gs gs (λ g no i. i)
          ls) $ split3 ! $ fjoin ! $ fpack ! (List Entry) (idle_log η) gs $ move ! (2 ∷ 3 ∷ 0 ∷ []) $ fjoin3 ! $
          fpack ! PostStage (at_stage d n) idle $ frame ! $ done !)
      look n (out pin) = let Goal : Pr = ⟦ at_post d n ⟧ ∗ ⟦ Seen n ⟧ in qed 𝓛 (‵ (at_stage d n (out pin)) ∷ ‵
          (all_entered 𝓛 a ls) ∷ []) ∵ suffices ! Goal (upd_i 𝓤 Goal) $ fsplit3 ! $ fpick ! (λ at. drop ! $
          move ! (1 ∷ []) $ fpick ! (λ gs. let all : List Entry = gs ++ pin ∷ [] in fsplit ! $
          move ! (0 ∷ 1 ∷ 3 ∷ []) $
          use3 𝓛 (‵ (latest logs full_share η all) ⊛ ‵ (are_over gs) ⊛ ‵ (Seen n)) (tells 𝓛 a η n all gs (λ g no
          i. not_last g pin gs (λ e. no (at ∙ ap (λ (z : Entry). posted z.1) (sym e))) i) ls) $ split3 ! $
          fjoin ! $ fpack ! (List Entry) (out_log η pin) gs $ nothing ! $
          fpack ! (n ≡ posted pin.1) (λ _. ftrue) at $ move ! (0 ∷ 3 ∷ 1 ∷ []) $ fjoin3 ! $
          fpack ! PostStage (at_stage d n) (out pin) $ frame ! $ done !))

      -- one plain load looks at a post
      pub looks_at : A.inv (fbor α Memory) ∗ (A.lft α q ∗ ⟦ all_entered 𝓛 a ls ⟧) ⊢ asks 𝓛 (block_ptr b (o + 0)) (λ n.
          n) always (λ n. fsep (flft α q) (Seen n))
      looks_at = stepped (λ n. n) Seen (all_entered 𝓛 a ls) (λ n. qed 𝓛 (‵ (at_post d n) ∷ ‵ (all_entered 𝓛 a
          ls) ∷ []) ∵ fpick ! (λ p. by ! (look n p)))
