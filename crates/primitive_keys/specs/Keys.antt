-- Keys of records.
use Rattle.std.specs.Prelude.{ℕ, List, [], Option, map}
use Rattle.acct_types.specs.Primitives.{columns_of}
use Rattle.acct_types.specs.StandingRoutes.{StandingRoute}
use Rattle.acct_types.specs.declared.cell.Cell.{Cell}
use Rattle.acct_types.specs.declared.cell.Cell.TheVariants.{Number, Address, Mac, Words}
use Rattle.acct_types.specs.declared.choice.AsFrom.{AsFrom}
use Rattle.acct_types.specs.declared.flow.FlowRecord.{FlowRecord}
use Rattle.acct_types.specs.declared.primitives.Column.{Column}
use Rattle.acct_types.specs.declared.primitives.Column.TheVariants.{Tag, Tag2, Label, AcctWindow, SrcMac, DstMac, Vlan, SrcAs, DstAs, StdComm, AsPath, LocalPref, Med, PeerDstAs, PeerSrcIp, PeerDstIp, InIface, OutIface, SrcHost, DstHost, SrcNet, DstNet, SrcMask, DstMask, SrcPort, DstPort, Proto, Tos}
use Rattle.acct_types.specs.declared.primitives.Primitives.{Primitives}
use Rattle.pretag_map.specs.declared.facts.Tags.{Tags}
use Rattle.primitive_keys.specs.Routing.{chosen, communities_of, first_system, local_pref_of, mask_of, med_of, next_hop_of, path_of, system_of}
use Rattle.primitive_keys.specs.Values.{address_in, mac_in, net_of, number_in, words_in}

-- What a record has in a column, by where its routing parts come from, the routes to its source and to its destination, its
-- tags and their label, and the first moment of its window. But for the source's system, mask and net, a route is the
-- destination's.
abbrev pub cell_in : FlowRecord → AsFrom → Option StandingRoute → Option StandingRoute → Tags → Option (List ℕ) → ℕ → Column → Cell
cell_in r from src dst tags label window Tag = Number tags.tag
cell_in r from src dst tags label window Tag2 = Number tags.tag2
cell_in r from src dst tags label window Label = Words (words_in label)
cell_in r from src dst tags label window AcctWindow = Number window
cell_in r from src dst tags label window SrcMac = Mac (mac_in r.src_mac)
cell_in r from src dst tags label window DstMac = Mac (mac_in r.dst_mac)
cell_in r from src dst tags label window Vlan = Number (number_in r.vlan)
cell_in r from src dst tags label window SrcAs = Number (system_of from r.src_as src)
cell_in r from src dst tags label window DstAs = Number (system_of from r.dst_as dst)
cell_in r from src dst tags label window StdComm = Words (chosen from [] (communities_of dst))
cell_in r from src dst tags label window AsPath = Words (chosen from [] (path_of dst))
cell_in r from src dst tags label window LocalPref = Number (chosen from 0 (local_pref_of dst))
cell_in r from src dst tags label window Med = Number (chosen from 0 (med_of dst))
cell_in r from src dst tags label window PeerDstAs = Number (chosen from 0 (first_system dst))
cell_in r from src dst tags label window PeerSrcIp = Address r.exporter
cell_in r from src dst tags label window PeerDstIp = Address (chosen from (address_in r.bgp_next_hop) (next_hop_of dst))
cell_in r from src dst tags label window InIface = Number (number_in r.in_iface)
cell_in r from src dst tags label window OutIface = Number (number_in r.out_iface)
cell_in r from src dst tags label window SrcHost = Address (address_in r.src)
cell_in r from src dst tags label window DstHost = Address (address_in r.dst)
cell_in r from src dst tags label window SrcNet = Address (net_of (mask_of from r.src_mask src) (address_in r.src))
cell_in r from src dst tags label window DstNet = Address (net_of (mask_of from r.dst_mask dst) (address_in r.dst))
cell_in r from src dst tags label window SrcMask = Number (mask_of from r.src_mask src)
cell_in r from src dst tags label window DstMask = Number (mask_of from r.dst_mask dst)
cell_in r from src dst tags label window SrcPort = Number (number_in r.src_port)
cell_in r from src dst tags label window DstPort = Number (number_in r.dst_port)
cell_in r from src dst tags label window Proto = Number (number_in r.proto)
cell_in r from src dst tags label window Tos = Number (number_in r.tos)

-- the cells of the columns that are asked for, in their order
unfoldable pub key_cells_of : Primitives → FlowRecord → AsFrom → Option StandingRoute → Option StandingRoute → Tags → Option (List ℕ) → ℕ → List Cell
key_cells_of p r from src dst tags label window = map (cell_in r from src dst tags label window) (columns_of p)
