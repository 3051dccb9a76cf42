-- Helper: the headline does not rest on this file.
-- The command that `clap` is given, and what it reads of arguments.
use Rattle.std.specs.Prelude.{◌≡◌, ℕ, true, List, [], ◌∷◌, codes, Option, Some, None}
use Rattle.std.specs.Option.{option_map}
use Rattle.command_words.specs.declared.form.Form.{Form}
use Rattle.command_words.specs.declared.form.Form.TheVariants.{Run, Pool, Check, Sample}
use Rattle.command_words.specs.Words.{HasOption, IsCheck, IsSample}
use Rattle.clap.specs.Words.{App, Row, Rule, Text, first_of, new_app, new_rule, with_rule, with_subcommand}

-- the most requests that each client of the generated session may be asked for
abbrev pub most_asked : ℕ
most_asked = 40000

-- the most node slots that each client may be given
abbrev pub most_slots : ℕ
most_slots = 8192

-- the arguments are this form
abbrev pub IsForm : List (List ℕ) → Form → Type 0
IsForm words (Run None) = words ≡ codes "run" ∷ []
IsForm words (Run (Some n)) = HasOption (codes "run") (codes "--slots") words n
IsForm words (Pool n) = HasOption (codes "run") (codes "--pool") words n
IsForm words (Check slots) = IsCheck words slots
IsForm words (Sample n) = IsSample words n

-- the number of `sample`, which is required
abbrev pub number_rule : Rule
number_rule = record (new_rule (codes "number")) { required = true }

-- the number of `run` and of `check`, which is the value of an option
abbrev pub slots_rule : Rule
slots_rule = record (new_rule (codes "number")) { long = Some (codes "slots") }

-- the number of `run`, where clients hand slots to one another
abbrev pub pool_rule : Rule
pool_rule = record (new_rule (codes "pool")) { long = Some (codes "pool") }

abbrev pub run_app : App
run_app = with_rule (with_rule (new_app (codes "run")) slots_rule) pool_rule

abbrev pub check_app : App
check_app = with_rule (new_app (codes "check")) slots_rule

abbrev pub sample_app : App
sample_app = with_rule (new_app (codes "sample")) number_rule

-- no program's name precedes the arguments
abbrev pub bare_app : App
bare_app = record (new_app (codes "bucketidx")) { top = record (new_app (codes "bucketidx")).top { no_binary_name = true } }

abbrev pub program : App
program = with_subcommand (with_subcommand (with_subcommand bare_app run_app.top) check_app.top) sample_app.top

-- the name of a subcommand, and its numbers, where it has them: the one of `sample` or of `--slots`, and the one of
-- `--pool`
abbrev pub read_of : Option (Text × List Row) → Option (Text × Option Text × Option Text)
read_of = option_map (λ p. (p.0, first_of (codes "number") p.1, first_of (codes "pool") p.1))
