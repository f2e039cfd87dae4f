-- How a weak reference is deleted where it is cleared.
use Rattle.std.specs.Prelude.{ℕ, Bool, true, false}
use Rattle.jr_word.specs.declared.handle.RefKind.TheVariants.{Weak}
use Rattle.jr_env.specs.Deeds.{Deed, delete_reference, done, is_same_object, ◌>>=◌, ◌>>◌}

-- a weak reference is deleted where it was found cleared: whether it was
abbrev pub deleting_as_found : ℕ → Bool → Deed Bool
deleting_as_found w true = do
  delete_reference Weak w
  done true
deleting_as_found w false = done false

-- A WEAK REFERENCE IS COMPARED WITH NULL, AND DELETED where it is cleared
abbrev pub deleting_if_cleared : ℕ → Deed Bool
deleting_if_cleared w = do
  cleared ← is_same_object w 0
  deleting_as_found w cleared
