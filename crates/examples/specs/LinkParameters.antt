-- The variables of a host for its link (RFC 4861 sections 6.3.2 and 6.3.4).
use Rattle.std.specs.Prelude.{ℕ, ◌==◌, ◌||◌, nat_lt, if◌then◌else◌, Option, None, Some}
use Rattle.control_wire.specs.Duration.{micros_of, of_micros}
use Rattle.control_wire.specs.DurationType.{Duration}
use Rattle.examples.specs.declared.link_parameters.LinkParameters.{LinkParameters}
use Rattle.examples.specs.declared.router.RouterInformation.{RouterInformation}

-- those of a host that has heard no router: 30 s and 1 s (RFC 4861 section 10)
abbrev pub default_parameters : LinkParameters
default_parameters = record {
  hop_limit = 64;
  mtu = 1500;
  reachable_time = of_micros 30000000;
  retrans_time = of_micros 1000000;
}

-- an MTU that the link can have takes the place of the one before
abbrev pub mtu_of : Option ℕ → ℕ → ℕ
mtu_of None before = before
mtu_of (Some mtu) before = if nat_lt mtu 1280 || nat_lt 1500 mtu then before else mtu

-- so does a time that is not zero
abbrev pub time_of : Duration → Duration → Duration
time_of told before = if micros_of told == 0 then before else told

-- what they are when a router has told these
abbrev pub learned : RouterInformation → LinkParameters → LinkParameters
learned told before = record {
  hop_limit = if told.hop_limit == 0 then before.hop_limit else told.hop_limit;
  mtu = mtu_of told.mtu before.mtu;
  reachable_time = time_of told.reachable_time before.reachable_time;
  retrans_time = time_of told.retrans_time before.retrans_time;
}
