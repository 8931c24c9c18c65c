-- Calls of a closure with entries, one after another.
use Rattle.std.proofs.Common.{◌++◌, [], ◌∷◌}
use Rattle.std.proofs.lemmas.Fn.{FoldsTo-push}
use Rattle.std.specs.Fn.{Mut}
use denote.Ref.{Bor}
use Rattle.epoch_shared.specs.Showing.{CalledWith, GoesOver, ShowsEntry}

-- of a closure, and of which entries there are
module _ {F K V R : Type 0} (g : Mut F (Bor K × (Bor V × Unit {0})) R) (is_entry : K → V → Type 0) where
  -- A call at one more entry comes behind those before.
  pub shows_another : {f h f' : F} {key : K} {value : V} {told : R}
      → GoesOver g is_entry f h
      → is_entry key value
      → CalledWith g h key value told f'
      → GoesOver g is_entry f f'
  shows_another {f} {h} {f'} {key} {value} {told} (entries, goes) there call = (
    entries ++ (key, value) ∷ [],
    FoldsTo-push (ShowsEntry g is_entry) f entries h (key, value) f' goes (there, (told, call)),
  )
