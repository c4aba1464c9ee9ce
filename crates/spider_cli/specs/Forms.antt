use Rattle.spider_cli.specs.declared.Form.{Form}
use Rattle.spider_cli.specs.declared.Form.TheVariants as code
use Rattle.spider_cli.specs.Top as spec

-- a form of the code, as the definition has it
abbrev pub form_view : Form → spec.Form
form_view (code.Check path) = spec.Check path.now
form_view (code.Play path) = spec.Play path.now
form_view (code.Wire path) = spec.Wire path.now
form_view (code.Workload path seed count) = spec.Workload path.now seed count
