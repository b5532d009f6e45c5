-- The options of nothing: what a name stands for until a call picks it.
use Rattle.std.specs.Prelude.{[], None}
use Rattle.pulsar_machine.specs.Options.{Options}

abbrev pub unset : Options
unset =
    record {
      chosen =
          record {
            base = None;
            auth = None;
            connection = record { min_backoff = 0; max_backoff = 0; max_retries = 0; connection_timeout = 0; keep_alive = 0; connection_max_idle = 0 };
            operation = record { operation_timeout = 0; retry_delay = 0; max_retries = None };
            outbound = 0;
            seed = 0;
            first_number = 0;
            now = 0;
          };
      policies = [];
    }
