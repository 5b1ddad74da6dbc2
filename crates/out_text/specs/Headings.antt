-- What a purge has side by side: a table with a row for each column, and for each count.
use Rattle.std.specs.Prelude.{ℕ, List, codes}
use Rattle.acct_types.specs.declared.primitives.Column.TheVariants.{Tag, Tag2, Label, AcctWindow, SrcMac, DstMac, Vlan, SrcAs, DstAs, StdComm, AsPath, LocalPref, Med, PeerDstAs, PeerSrcIp, PeerDstIp, InIface, OutIface, SrcHost, DstHost, SrcNet, DstNet, SrcMask, DstMask, SrcPort, DstPort, Proto, Tos}
use Rattle.out_text.specs.declared.field.Field.{Field}
use Rattle.out_text.specs.declared.field.Field.TheVariants.{Column, Packets, Flows, Bytes}

-- the name in a header line, the name in an object, and how wide the formatted layout has it
pub record Titles : Type 0 where
  pub name : List ℕ
  pub json_name : List ℕ
  pub width : ℕ

abbrev titles : List ℕ → List ℕ → ℕ → Titles
titles name json_name width = record { name = name; json_name = json_name; width = width }

-- nothing is padded to the width 0
unfoldable pub titles_of : Field → Titles
titles_of (Column Tag) = titles (codes "TAG") (codes "tag") 20
titles_of (Column Tag2) = titles (codes "TAG2") (codes "tag2") 20
titles_of (Column Label) = titles (codes "LABEL") (codes "label") 24
titles_of (Column AcctWindow) = titles (codes "WINDOW") (codes "window") 20
titles_of (Column SrcMac) = titles (codes "SRC_MAC") (codes "mac_src") 17
titles_of (Column DstMac) = titles (codes "DST_MAC") (codes "mac_dst") 17
titles_of (Column Vlan) = titles (codes "VLAN") (codes "vlan") 5
titles_of (Column SrcAs) = titles (codes "SRC_AS") (codes "as_src") 10
titles_of (Column DstAs) = titles (codes "DST_AS") (codes "as_dst") 10
titles_of (Column StdComm) = titles (codes "COMMS") (codes "comms") 24
titles_of (Column AsPath) = titles (codes "AS_PATH") (codes "as_path") 24
titles_of (Column LocalPref) = titles (codes "LOCAL_PREF") (codes "local_pref") 10
titles_of (Column Med) = titles (codes "MED") (codes "med") 10
titles_of (Column PeerDstAs) = titles (codes "PEER_DST_AS") (codes "peer_as_dst") 11
titles_of (Column PeerSrcIp) = titles (codes "PEER_SRC_IP") (codes "peer_ip_src") 39
titles_of (Column PeerDstIp) = titles (codes "PEER_DST_IP") (codes "peer_ip_dst") 39
titles_of (Column InIface) = titles (codes "IN_IFACE") (codes "iface_in") 10
titles_of (Column OutIface) = titles (codes "OUT_IFACE") (codes "iface_out") 10
titles_of (Column SrcHost) = titles (codes "SRC_IP") (codes "ip_src") 39
titles_of (Column DstHost) = titles (codes "DST_IP") (codes "ip_dst") 39
titles_of (Column SrcNet) = titles (codes "SRC_NET") (codes "net_src") 39
titles_of (Column DstNet) = titles (codes "DST_NET") (codes "net_dst") 39
titles_of (Column SrcMask) = titles (codes "SRC_MASK") (codes "mask_src") 8
titles_of (Column DstMask) = titles (codes "DST_MASK") (codes "mask_dst") 8
titles_of (Column SrcPort) = titles (codes "SRC_PORT") (codes "port_src") 8
titles_of (Column DstPort) = titles (codes "DST_PORT") (codes "port_dst") 8
titles_of (Column Proto) = titles (codes "PROTOCOL") (codes "ip_proto") 8
titles_of (Column Tos) = titles (codes "TOS") (codes "tos") 3
titles_of Packets = titles (codes "PACKETS") (codes "packets") 20
titles_of Flows = titles (codes "FLOWS") (codes "flows") 20
titles_of Bytes = titles (codes "BYTES") (codes "bytes") 0

-- the name in a header line
abbrev pub name_of : Field → List ℕ
name_of field = (titles_of field).name

-- the name in an object
abbrev pub json_name_of : Field → List ℕ
json_name_of field = (titles_of field).json_name

-- how wide the formatted layout has it
abbrev pub width_of : Field → ℕ
width_of field = (titles_of field).width
