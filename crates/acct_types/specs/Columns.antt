-- The columns of an output.
use Rattle.std.specs.Prelude.{ℕ, ◌==◌, Bool, List, [], ◌∷◌}
use Rattle.std.specs.List.{filter, list_any}
use Rattle.acct_types.specs.declared.primitives.Column.{Column}
use Rattle.acct_types.specs.declared.primitives.Column.TheVariants.{Tag, Tag2, Label, AcctWindow, SrcMac, DstMac, Vlan, SrcAs, DstAs, StdComm, AsPath, LocalPref, Med, PeerDstAs, PeerSrcIp, PeerDstIp, InIface, OutIface, SrcHost, DstHost, SrcNet, DstNet, SrcMask, DstMask, SrcPort, DstPort, Proto, Tos}

-- all columns in the order in which they are printed
unfoldable pub all_columns : List Column
all_columns =
    Tag ∷ Tag2 ∷ Label ∷ AcctWindow ∷ SrcMac ∷ DstMac ∷ Vlan ∷ SrcAs ∷ DstAs ∷ StdComm ∷ AsPath ∷ LocalPref ∷ Med ∷ PeerDstAs ∷
    PeerSrcIp ∷ PeerDstIp ∷ InIface ∷ OutIface ∷ SrcHost ∷ DstHost ∷ SrcNet ∷ DstNet ∷ SrcMask ∷ DstMask ∷ SrcPort ∷ DstPort ∷ Proto ∷ Tos ∷ []

-- the place of a column among all, from 0
abbrev pub place_of : Column → ℕ
place_of Tag = 0
place_of Tag2 = 1
place_of Label = 2
place_of AcctWindow = 3
place_of SrcMac = 4
place_of DstMac = 5
place_of Vlan = 6
place_of SrcAs = 7
place_of DstAs = 8
place_of StdComm = 9
place_of AsPath = 10
place_of LocalPref = 11
place_of Med = 12
place_of PeerDstAs = 13
place_of PeerSrcIp = 14
place_of PeerDstIp = 15
place_of InIface = 16
place_of OutIface = 17
place_of SrcHost = 18
place_of DstHost = 19
place_of SrcNet = 20
place_of DstNet = 21
place_of SrcMask = 22
place_of DstMask = 23
place_of SrcPort = 24
place_of DstPort = 25
place_of Proto = 26
place_of Tos = 27

abbrev pub same_column : Column → Column → Bool
same_column a b = place_of a == place_of b

-- whether the column is among these
abbrev pub has_column : List Column → Column → Bool
has_column columns column = list_any (λ other. same_column other column) columns

-- these columns in their order without repeats
unfoldable pub in_order : List Column → List Column
in_order columns = filter (λ column. has_column columns column) all_columns

-- with one more column in its place, where it isn't there yet
abbrev pub with_column : Column → List Column → List Column
with_column column columns = in_order (column ∷ columns)
