-- Refusals as they are answered. Numbers below 2,000 are MySQL's (MySQL Reference Manual, "Server Error Message Reference").
use Rattle.std.specs.Prelude.{ℕ, List, ◌++◌, codes}
use Rattle.sql_text.specs.declared.link.LinkAnswer.{LinkAnswer}
use Rattle.sql_text.specs.declared.link.LinkAnswer.TheVariants.{Refused}
use Rattle.branch_store.specs.declared.branch.Stage.{Stage}
use Rattle.branch_store.specs.declared.branch.Stage.TheVariants.{Active, Ended, Prepared}
use Rattle.branch_store.specs.declared.fault.BranchFault.{BranchFault}
use Rattle.branch_store.specs.declared.fault.BranchFault.TheVariants.{NoSuchBranch, WrongState, Duplicate, NoTable, NoColumn, TypeMismatch}

-- a branch's stage in the words of X/Open XA
abbrev pub stage_word : Stage → List ℕ
stage_word Active = codes "ACTIVE"
stage_word Ended = codes "IDLE"
stage_word Prepared = codes "PREPARED"

abbrev pub refusal : BranchFault → LinkAnswer
refusal NoSuchBranch = Refused 1397 (codes "Unknown XID")
refusal (WrongState stage) = Refused 1399 (codes "Wrong state: " ++ stage_word stage)
refusal Duplicate = Refused 1440 (codes "The XID already exists")
refusal (NoTable name) = Refused 1146 (codes "Table '" ++ name ++ codes "' doesn't exist")
refusal (NoColumn name) = Refused 1054 (codes "Unknown column '" ++ name ++ codes "'")
refusal TypeMismatch = Refused 14020 (codes "Type mismatch")
