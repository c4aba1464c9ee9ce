use Rattle.std.specs.Prelude.{ℕ, ◌++◌, List, [], codes}
use Rattle.std.specs.Fmt.{decimal}
use Rattle.world_runs.specs.declared.schedule.LineRule.{LineRule}
use Rattle.world_runs.specs.declared.schedule.LineRule.TheVariants.{NotText, LineTooLong, TooManyLines, UnknownWord, BadNumber}
use Rattle.spider_cli.specs.declared.outcome.Object.{Object}
use Rattle.spider_cli.specs.declared.outcome.Object.TheVariants as object
use Rattle.spider_cli.specs.declared.outcome.Outcome.{Outcome}
use Rattle.spider_cli.specs.declared.outcome.Outcome.TheVariants as outcome

-- the exit status
abbrev pub code_of : Outcome → ℕ
code_of outcome.Done = 0
code_of (outcome.Fault what) = 1
code_of outcome.Usage = 2
code_of outcome.NoMemory = 3
code_of (outcome.Conf rule) = 4
code_of (outcome.Refused line rule) = 5

abbrev pub object_text : Object → List ℕ
object_text object.Conf = codes "conf"
object_text object.Input = codes "input"
object_text object.Output = codes "output"

abbrev pub rule_text : LineRule → List ℕ
rule_text NotText = codes "not text"
rule_text LineTooLong = codes "line too long"
rule_text TooManyLines = codes "too many lines"
rule_text UnknownWord = codes "unknown word"
rule_text BadNumber = codes "bad number"

-- what is said on error output
abbrev pub text_of : Outcome → List ℕ
text_of outcome.Done = []
text_of (outcome.Fault what) = codes "outside fault: " ++ (object_text what ++ codes "\n")
text_of outcome.Usage = codes "usage: spider_local check CONF / play CONF / wire CONF / workload CONF SEED N\n"
text_of outcome.NoMemory = codes "out of memory\n"
text_of (outcome.Conf rule) = codes "conf: " ++ (rule ++ codes "\n")
text_of (outcome.Refused line rule) = codes "schedule line " ++ (decimal line ++ (codes ": " ++ (rule_text rule ++ codes "\n")))
