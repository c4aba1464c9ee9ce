use Rattle.std.specs.Prelude.{ℕ, List, [], ◌∷◌, Option, Some, None, if◌then◌else◌}
use Rattle.std.specs.Str.{bytes_eq}
use Rattle.my_wire.specs.declared.memory.files.MemFile.{MemFile}

-- the contents of the first file with that path
abbrev pub contents_at : List MemFile → List ℕ → Option (List ℕ)
contents_at [] path = None
contents_at (file ∷ files) path = if bytes_eq file.path path then Some file.contents else contents_at files path
