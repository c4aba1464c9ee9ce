-- Which configurations are refused, and by which rule.
use Rattle.std.specs.Prelude.{◌≡◌, ℕ, Bool, true, false, List}
use Rattle.conf_file.specs.declared.fault.FileFault.TheVariants as file
use Rattle.catalog.specs.declared.conf.ConfFault.{ConfFault}
use Rattle.catalog.specs.declared.conf.ConfFault.TheVariants.{File, Entries, NoMemory}
use Rattle.catalog.specs.declared.fault.CatalogFault.TheVariants as entries
use Rattle.catalog.specs.Conf.{IsConfFault}
use Rattle.conf_check.specs.Rules.{fault_text}
use Rattle.spider_cli.specs.declared.outcome.Outcome.{Outcome}
use Rattle.spider_cli.specs.declared.outcome.Outcome.TheVariants as outcome

-- the fault tells of a rule, and not of memory
abbrev pub is_rule : ConfFault → Bool
is_rule NoMemory = false
is_rule (File file.NoMemory) = false
is_rule (Entries entries.NoMemory) = false
is_rule _ = true

-- this is the text of the first rule that the configuration breaks
pub record Breaks (conf rule : List ℕ) : Type 0 where
  pub fault : ConfFault
  pub names_rule : is_rule fault ≡ true
  pub first : IsConfFault conf fault
  pub text : rule ≡ fault_text fault

-- how a call ends on a configuration that breaks a rule: it is refused by this one, or memory was wanting
abbrev pub IsTurnedDown : List ℕ → Outcome → Type 0
IsTurnedDown conf (outcome.Conf rule) = Breaks conf rule
IsTurnedDown conf outcome.NoMemory = Unit {0}
IsTurnedDown conf outcome.Done = ⊥
IsTurnedDown conf (outcome.Fault what) = ⊥
IsTurnedDown conf outcome.Usage = ⊥
IsTurnedDown conf (outcome.Refused line rule) = ⊥
