-- Where an address leads, and where the URL of the options does.
-- (Pulsar client documentation, Connection URL: `pulsar://HOST:PORT`, with the port 6650 where it has none. URL Standard, section
-- 4.4, URL parsing, and section 3.5, host serializing)
use Rattle.std.specs.Prelude.{◌≡◌, ℕ, if◌then◌else◌, List, codes, Option, Some, None, unwrap_or}
use Rattle.std.specs.Option.{option_map}
use Rattle.url.specs.Host.{host_text}
use Rattle.url.specs.Parts.{nonempty_host}
use Rattle.pulsar_addresses.specs.Address.{Place, default_port, is_reachable}
use Rattle.pulsar_addresses.specs.Address.{base_in}

-- where an address leads: the host of its URL, as that writes it, and its port
abbrev pub leads_to : Place → Option (List ℕ × ℕ)
leads_to p = option_map (λ host. (host_text host, unwrap_or p.url.port default_port)) (nonempty_host p.url)

-- and where a text does, if it is reached there
abbrev pub reached_in : Option Place → Option (List ℕ × ℕ)
reached_in None = None
reached_in (Some p) = if is_reachable p then leads_to p else None

abbrev pub reached_at : List ℕ → Option (List ℕ × ℕ)
reached_at text = reached_in (base_in text)

abbrev pub at : List ℕ → ℕ → Option (List ℕ × ℕ)
at host port = Some (host, port)

-- some texts with their addresses
pub record KnownAddresses : Type 0 where
  pub whole : reached_at (codes "pulsar://127.0.0.1:6650") ≡ at (codes "127.0.0.1") 6650
  pub no_port : reached_at (codes "pulsar://h") ≡ at (codes "h") 6650
  pub in_brackets : reached_at (codes "pulsar://[::1]:7") ≡ at (codes "[::1]") 7
  pub other_scheme : reached_at (codes "pulsar+ssl://h") ≡ None
  pub no_host : reached_at (codes "pulsar://") ≡ None
  pub no_url : reached_at (codes "x") ≡ None
