-- A name is read where its slot and its turn are.
use Rattle.std.proofs.Common.{◌≡◌, ℕ, ◌<◌, List, Option, Some, None, IfSome, refl, sym, subst}
use Rattle.epoch_cells.specs.declared.cells.name.Name.{Name}
use Rattle.epoch_script.specs.Words.{Behind, ReadsText, SpellsName, SpellsNumber, SpellsTurn, behind}

same_number : (a b : ℕ) (text : List ℕ) → SpellsNumber a text → SpellsNumber b text → a ≡ b
same_number a b text one other = cc (one.2, other.2)

same_turn : (a b : ℕ) (rest : Option (List ℕ)) → Behind rest (SpellsNumber a) → Behind rest (SpellsNumber b) → a ≡ b
same_turn a b (Some rest) one other = same_number a b rest one other
same_turn a b None one other = absurd one

-- Of a text that spells a slot and a turn, a reading is right that gives their name, or none where they have no name.
pub name_read : (text : List ℕ) (slot turn : ℕ) (read : Option Name)
    → SpellsTurn slot turn text
    → IfSome read (λ name. (name.slot ≡ slot) × (name.turn ≡ turn) × (turn < 4294967296))
    → (read ≡ None → (name : Name) → name.slot ≡ slot → name.turn ≡ turn → ¬ (turn < 4294967296))
    → ReadsText SpellsName text read
name_read text slot turn (Some name) says is none = (
  subst (λ (t : ℕ). SpellsTurn name.slot t text) (sym is.1) (subst (λ (s : ℕ). SpellsTurn s turn text) (sym is.0) says),
  subst (λ (t : ℕ). t < 4294967296) (sym is.1) is.2,
)
name_read text slot turn None says is none = λ name other.
    let slot_is : name.slot ≡ slot = same_number name.slot slot _ other.0.0 says.0 in
    let turn_is : name.turn ≡ turn = same_turn name.turn turn (behind 46 text) other.0.1 says.1 in
    none refl name slot_is turn_is (subst (λ (t : ℕ). t < 4294967296) turn_is other.1)
