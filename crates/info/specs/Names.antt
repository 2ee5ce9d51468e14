-- What a section is called.
use Rattle.std.specs.Prelude.{ℕ, List, [], ◌∷◌, codes, Option, Some, None}
use Rattle.image.specs.declared.kinds.Kind.{Kind}
use Rattle.image.specs.declared.kinds.Kind.TheVariants.{File, Pipe, Head}
use Rattle.perf_data.specs.Features.{name_of}

-- An empty section of a pipe image whose number has no name is the mark with which perf ends its features.
abbrev pub unnamed : Kind → List ℕ → List ℕ
unnamed Pipe [] = codes "end mark"
unnamed Pipe (b ∷ bs) = codes "unknown"
unnamed File section = codes "unknown"
unnamed Head section = codes "unknown"

abbrev pub or_unnamed : Option (List ℕ) → Kind → List ℕ → List ℕ
or_unnamed (Some name) kind section = name
or_unnamed None kind section = unnamed kind section

-- The name of its feature, or else what it is.
abbrev pub section_name : Kind → ℕ → List ℕ → List ℕ
section_name kind number section = or_unnamed (name_of number) kind section
