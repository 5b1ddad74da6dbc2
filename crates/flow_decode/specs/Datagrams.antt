-- What a datagram says, as its protocol and version have it.
use Rattle.std.specs.Prelude.{ℕ, ◌⊎◌, IsOk, ◌==◌, nat_lt, length, Result, Err, if◌then◌else◌}
use Rattle.acct_types.specs.Numbers.{number_at}
use Rattle.acct_types.specs.declared.datagram.Datagram.{Datagram}
use Rattle.config_keys.specs.declared.tool.Tool.{Tool}
use Rattle.config_keys.specs.declared.tool.Tool.TheVariants.{Nfacctd, Sfacctd, Pmbgpd}
use Rattle.flow_templates.specs.declared.refusal.Cause.{Cause}
use Rattle.flow_templates.specs.declared.refusal.Cause.TheVariants.{Short, Version}
use Rattle.flow_templates.specs.Decoding.{Said, rows_alone}
use Rattle.flow_templates.specs.Known.{Known}
use Rattle.ipfix_in.specs.Message.{decoded_ipfix}
use Rattle.ipfix_in.specs.Message.{AcceptsSomeSets as AcceptsSomeSetsOfIpfix}
use Rattle.netflow_in.specs.Version5.{decoded_v5}
use Rattle.netflow_in.specs.Version9.{decoded_v9}
use Rattle.netflow_in.specs.Version9.{AcceptsSomeSets as AcceptsSomeSetsOf9}
use Rattle.sflow_in.specs.Datagram.{decoded_sflow}

-- the version is the number in the first two octets
abbrev pub version_of : Datagram → ℕ
version_of d = number_at d.octets 0 2

-- a datagram of NetFlow or IPFIX, by what is known before it
unfoldable pub decoded_netflow : Known → Datagram → Result Said Cause
decoded_netflow known d =
    if nat_lt (length d.octets) 2 then Err Short
    else (if version_of d == 5 then rows_alone (decoded_v5 d.exporter d.octets)
    else (if version_of d == 9 then decoded_v9 known d.exporter d.octets
    else (if version_of d == 10 then decoded_ipfix known d.exporter d.octets
    else Err (Version (version_of d)))))

-- A datagram as a tool reads it: sfacctd reads sFlow, and nfacctd NetFlow and IPFIX.
abbrev pub decoded : Tool → Known → Datagram → Result Said Cause
decoded Sfacctd known d = decoded_sflow d.exporter d.octets
decoded Nfacctd known d = decoded_netflow known d
decoded Pmbgpd known d = decoded_netflow known d

-- Where memory may be wanted: the datagram is accepted, or some of its sets are, the first ones.
abbrev pub MayWantNetflow : Known → Datagram → Type 0
MayWantNetflow known d = IsOk (decoded_netflow known d) ⊎ (AcceptsSomeSetsOf9 known d.exporter d.octets ⊎ AcceptsSomeSetsOfIpfix known d.exporter d.octets)

abbrev pub MayWant : Tool → Known → Datagram → Type 0
MayWant Sfacctd known d = IsOk (decoded_sflow d.exporter d.octets)
MayWant Nfacctd known d = MayWantNetflow known d
MayWant Pmbgpd known d = MayWantNetflow known d
