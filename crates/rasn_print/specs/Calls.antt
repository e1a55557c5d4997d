-- What a command line asks for.
use Rattle.std.specs.Prelude.{ℕ, List, codes}
use Rattle.rasn_print.specs.declared.command_line.Work.{Work}
use Rattle.rasn_print.specs.declared.command_line.Work.TheVariants.{Show, Check, Lint, Json, Encode, Example, Normalise, Types, Dump, Get, Table}

-- the subcommand that asks for it
abbrev pub word_of : Work → List ℕ
word_of Show = codes "show"
word_of Check = codes "check"
word_of Lint = codes "lint"
word_of Json = codes "json"
word_of Encode = codes "encode"
word_of Example = codes "encode"
word_of Normalise = codes "normalise"
word_of Types = codes "types"
word_of Dump = codes "dump"
word_of Get = codes "get"
word_of Table = codes "table"
