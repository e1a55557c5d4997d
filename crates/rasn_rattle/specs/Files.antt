-- The files of a crate.
use Rattle.std.specs.Prelude.{◌≡◌, List, [], ◌∷◌, ◌++◌, codes}
use Rattle.std.specs.String.{string_bytes}
use Rattle.rasn_rattle.specs.declared.output.File.{File}

-- The last file is called `lib`.
abbrev pub EndsWithLib : List File → Type 0
EndsWithLib files = (others : List File) × (last : File) × (files ≡ others ++ last ∷ []) × (string_bytes last.name ≡ codes "lib")
