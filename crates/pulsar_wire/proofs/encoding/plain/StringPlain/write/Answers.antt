use Rattle.std.proofs.lemmas.Str.{is_utf8-from_IsUtf8, IsUtf8-string_bytes}
use Rattle.pulsar_wire.proofs.encoding.plain.StringPlain.write.Goals as goal

pub returns-clause-fits : goal.returns-clause-fits
returns-clause-fits g c = is_utf8-from_IsUtf8 _ (IsUtf8-string_bytes c.args.self.now)
