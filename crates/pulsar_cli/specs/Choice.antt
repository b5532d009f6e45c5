-- For the code's contracts alone: what the choice of a script is.
use Rattle.std.specs.Prelude.{string_bytes}
use Rattle.std.specs.Option.{option_map}
use Rattle.pulsar_messages.specs.Content.{authentication_values}
use Rattle.pulsar_addresses.specs.Address.{base_in}
use Rattle.pulsar_machine.specs.Options.{Chosen}
use Rattle.pulsar_cli.specs.declared.options.Choice.{Choice}

-- what a choice is
abbrev pub choice_of : Choice → Chosen
choice_of c =
    record {
      base = base_in (string_bytes c.url);
      auth = option_map authentication_values c.auth;
      connection = c.connection_retry;
      operation = c.operation_retry;
      outbound = c.outbound_channel_size;
      seed = c.seed;
      first_number = c.first_number;
      now = c.now;
    }
