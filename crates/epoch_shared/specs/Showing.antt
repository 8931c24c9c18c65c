-- Which entries a closure was called with.
use Rattle.std.specs.Prelude.{◌≡◌, List}
use Rattle.std.specs.List.{FoldsTo}
use Rattle.std.specs.Fn.{Called, Mut}
use denote.Ref.{Bor}

-- of a closure that is called at a `&` to a key and one to a value
module _ {F K V R : Type 0} (g : Mut F (Bor K × (Bor V × Unit {0})) R) where
  -- a call at this key and this value
  pub record CalledWith (f : F) (key : K) (value : V) (told : R) (f' : F) : Type 0 where
    pub first : Bor K
    pub second : Bor V
    pub shows : (first.now ≡ key) × (second.now ≡ value)
    pub called : Called g f (first, (second, tt)) told f'

  -- a call at an entry, whatever it returned
  abbrev pub ShowsEntry : (K → V → Type 0) → F → K × V → F → Type 0
  ShowsEntry is_entry f entry f' = is_entry entry.0 entry.1 × ((told : R) × CalledWith f entry.0 entry.1 told f')

  -- Calls at entries, one after another, took the closure from f to f'.
  abbrev pub GoesOver : (K → V → Type 0) → F → F → Type 0
  GoesOver is_entry f f' = (entries : List (K × V)) × FoldsTo (ShowsEntry is_entry) f entries f'
