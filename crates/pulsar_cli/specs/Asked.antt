-- For the code's contracts alone: what the form of the words is.
use Rattle.pulsar_cli.specs.Form as meaning
use Rattle.pulsar_cli.specs.declared.form.Form.{Form}
use Rattle.pulsar_cli.specs.declared.form.Form.TheVariants.{Script, Demo}

abbrev pub form_in : Form → meaning.Form
form_in Script = meaning.Script
form_in (Demo seed count) = meaning.Demo seed count
