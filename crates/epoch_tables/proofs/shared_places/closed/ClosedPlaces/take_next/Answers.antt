use Rattle.std.proofs.Common.{◌≡◌, ◌∙◌, ℕ, suc, ◌+◌, ◌-◌, ◌<◌, Bool, false, List, ◌∷◌, length, get_or, drop, set, sym}
use Rattle.std.proofs.Common.{ap, inl, inr, arith}
use Rattle.std.proofs.Common.{length-drop}
use Rattle.std.proofs.lemmas.Bool.Decides.{eqb_tells}
use Rattle.std.proofs.lemmas.Grind.{get_or-set_at}
use Rattle.std.proofs.lemmas.List.{get_or-set_other}
use Rattle.std.specs.Slots.{slots_items, slots_filled, slots_len, slots_counts}
use Rattle.atomic_table.proofs.Lists.{drop_at}
use Rattle.epoch_tables.proofs.shared_places.closed.ClosedPlaces.take_next.Goals as goal

one_more : (n : ℕ) → suc n ≡ n + 1
one_more n = omega arith

-- the next place is there, and is taken out of from now on
pub invariant_of-self : goal.invariant_of-self
invariant_of-self g c =
    let slots = c.self.inside.closed.slots in
    let at : ℕ = c.self.inside.next in
    let counts = slots_counts slots in
    let cut : length (drop at (slots_items slots)) ≡ length (slots_items slots) - at =
    length-drop at (slots_items slots) in
    let all = ap length c.self.view_is in
    let below : at < slots_len slots = omega (arith, c.requires.some, cut, all, counts.0) in
    let filled : slots_filled c.take.new.self.slots ≡ set (slots_filled slots) at false = c.take.ensures.others.1 in
    let long : slots_len c.take.new.self.slots ≡ slots_len slots = c.take.ensures.others.2 in
    let read : (place : ℕ) → get_or (slots_filled c.take.new.self.slots) place false
    ≡ get_or (set (slots_filled slots) at false) place false =
    (λ place. ap (λ (z : List Bool). get_or z place false) filled) in
    record {
      most = omega (arith, c.self.invariant.most, long);
      within = omega (arith, below, long);
      taken = λ place less. elim (eqb_tells place at) [
        | inl same ↦ read place
            ∙ get_or-set_at (slots_filled slots) at place false false same.1 (omega (arith, below, counts.1))
        | inr other ↦ read place ∙ get_or-set_other (slots_filled slots) at place false false other.1
            ∙ c.self.invariant.taken place (let differs = other.1 in omega (arith, less, differs))
      ];
      left = λ place past within. read place
          ∙ get_or-set_other (slots_filled slots) at place false false (λ is. omega (arith, past, is))
          ∙ c.self.invariant.left place (omega (arith, past)) (omega (arith, within, long));
    }

-- what is left begins with what was in the place
pub returns : goal.returns
returns g c =
    let slots = c.self.inside.closed.slots in
    let at : ℕ = c.self.inside.next in
    sym c.self.view_is ∙ drop_at (slots_items slots) at c.take.result c.take.ensures.value
    ∙ ap (λ (n : ℕ). c.take.result ∷ drop n (slots_items slots)) (one_more at)
    ∙ ap (λ l. c.take.result ∷ drop (at + 1) l) (sym c.take.ensures.others.0)
