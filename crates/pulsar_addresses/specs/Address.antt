-- Where a broker is reached.  (URL Standard, section 4.4, URL parsing, and section 3.5, host serializing; Pulsar binary protocol,
-- Topic lookup)
use Rattle.std.specs.Hash as fed
use Rattle.std.specs.Prelude.{◌≡◌, ℕ, Bool, false, ◌&&◌, List, ◌++◌, length, bytes_eq, codes, decimal, Option, Some, None, unwrap_or, Ok, Err, String, string_bytes, if◌then◌else◌, [], ◌∷◌}
use Rattle.std.specs.Option.{is_some}
use Rattle.url.specs.declared.host.Host.{Host}
use Rattle.url.specs.Host.{host_text}
use Rattle.url.specs.Parts.{Parts, nonempty_host, serialize}
use Rattle.url.specs.Parser.{Parsed, parse_url}
use Rattle.pulsar_addresses.specs.declared.address.BrokerAddress.{BrokerAddress}
use Rattle.pulsar_wire.specs.Failures.{Fault, Failure, OfDiscovery, DiscoveryConnection}

-- the URL to connect to, the broker behind it as host and port, and whether the URL is a proxy's
pub record Place : Type 0 where
  pub url : Parts
  pub broker_url : List ℕ
  pub proxy : Bool

abbrev pub place : BrokerAddress → Place
place a = record { url = a.url; broker_url = string_bytes a.broker_url; proxy = a.proxy }

-- the port of a broker
abbrev pub default_port : ℕ
default_port = 6650

-- a host and a port as a text
abbrev pub host_and_port : Host (List ℕ) → Option ℕ → List ℕ
host_and_port host port = host_text host ++ (codes ":" ++ decimal (unwrap_or port default_port))

-- the address of the service: its URL, and no proxy. A URL without a host is none.
abbrev pub base_at : Parts → Option (Host (List ℕ)) → Option Place
base_at url None = None
base_at url (Some host) = Some (record { url = url; broker_url = host_and_port host url.port; proxy = false })

abbrev pub base_of : Parts → Option Place
base_of url = base_at url (nonempty_host url)

-- the broker of a URL is reached by the base where a proxy stands before it, and by its own URL otherwise
abbrev pub behind_proxy : Place → Parts → Bool → Parts
behind_proxy base url proxy = if proxy then base.url else url

abbrev pub at_host : Place → (proxy : Bool) → Parts → Option (Host (List ℕ)) → Option Place
at_host base proxy url None = None
at_host base proxy url (Some host) =
    Some (record { url = behind_proxy base url proxy; broker_url = host_and_port host url.port; proxy = proxy })

-- a URL without a host is no address
abbrev pub place_of_url : Place → (proxy : Bool) → Parts → Option Place
place_of_url base proxy url = at_host base proxy url (nonempty_host url)

abbrev pub place_of_parsed : Place → (proxy : Bool) → Parsed Parts → Option Place
place_of_parsed base proxy (Ok url) = place_of_url base proxy url
place_of_parsed base proxy (Err e) = None

-- the address in a text, if there is one
abbrev pub place_in : Place → (proxy : Bool) → List ℕ → Option Place
place_in base proxy text = place_of_parsed base proxy (parse_url None text)

-- an address can be reached where its scheme is `pulsar` and it has a host
abbrev pub is_reachable : Place → Bool
is_reachable p = bytes_eq p.url.scheme (codes "pulsar") && is_some (nonempty_host p.url)

-- what is told to a proxy: the broker behind it
abbrev pub behind : Place → Option (List ℕ)
behind p = if p.proxy then Some p.broker_url else None

-- An address by its key. Addresses are the same where their texts are.
abbrev pub key_of : (url broker : List ℕ) (proxy : Bool) → List ℕ
key_of url broker proxy = decimal (length url) ++ ((if proxy then codes " proxy " else codes " broker ") ++ (url ++ broker))

abbrev pub address_key : Place → List ℕ
address_key p = key_of (serialize p.url) p.broker_url p.proxy

-- two addresses are the same
abbrev pub IsSame : Place → Place → Type 0
IsSame a b = (serialize a.url ≡ serialize b.url) × (a.broker_url ≡ b.broker_url) × (a.proxy ≡ b.proxy)

-- what an address gives to a hasher: the two texts and the choice, one behind the other
abbrev pub address_words : Place → List (List ℕ)
address_words p = fed.str (serialize p.url) ++ (fed.str p.broker_url ++ fed.bool p.proxy)

-- a topic, or a partition of one, and the broker that serves it
pub record Named : Type 0 where
  pub name : List ℕ
  pub place : Place

abbrev pub named : {Z : Type 0} → String Z × BrokerAddress → Named
named entry = record { name = string_bytes entry.0; place = place entry.1 }

-- a failure inside a search
abbrev pub in_discovery : Fault → Failure
in_discovery f = OfDiscovery (DiscoveryConnection f)

abbrev pub name_found : List Named → (name : List ℕ) → Place → List Named
name_found found name place = found ++ record { name = name; place = place } ∷ []

-- the address of the service in a text; there is none where the text is no URL, or has no host
abbrev pub base_parsed : Parsed Parts → Option Place
base_parsed (Ok url) = base_of url
base_parsed (Err e) = None

abbrev pub base_in : List ℕ → Option Place
base_in text = base_parsed (parse_url None text)
