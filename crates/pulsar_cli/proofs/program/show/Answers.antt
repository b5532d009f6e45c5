use Rattle.std.proofs.Common.{arith, inl, inr, refl, sym}
use Rattle.std.specs.Prelude.{string_bytes}
use Rattle.pulsar_cli.proofs.program.show.Goals as goal

pub returns-in_default : goal.returns-in_default
returns-in_default g c =
    record {
      known = inr (inl refl);
      done = λ e. absurd (omega (arith, e));
      lacks_memory = λ e. refl;
      sink_failed = λ e. absurd (omega (arith, e));
    }

pub returns-in-Ok-put_all : goal.returns-in-Ok-put_all
returns-in-Ok-put_all g c =
    record {
      known = inl refl;
      done = λ e. (string_bytes c.in-Ok.line, c.in-Ok.ensures, rw (sym c.as_bytes.ensures.value) c.in-Ok-put_all.ensures.ok);
      lacks_memory = λ e. absurd (omega (arith, e));
      sink_failed = λ e. absurd (omega (arith, e));
    }

pub returns : goal.returns
returns g c =
    record {
      known = inr (inr refl);
      done = λ e. absurd (omega (arith, e));
      lacks_memory = λ e. absurd (omega (arith, e));
      sink_failed = λ e. (c.in-Err.ensures.rises, string_bytes c.in-Ok.line, c.in-Ok.ensures, rw (sym c.as_bytes.ensures.value) c.in-Err.ensures.front);
    }
