-- What a record counts.
use Rattle.std.specs.Prelude.{ℕ, ◌*◌, Bool, List, Option, Some, None, Result, Ok, Err, if◌then◌else◌, map}
use Rattle.acct_types.specs.declared.flow.Counts.{Counts}
use Rattle.acct_types.specs.declared.flow.FlowRecord.{FlowRecord}
use Rattle.flow_templates.specs.declared.decoded.RawRecord.{RawRecord}
use Rattle.flow_templates.specs.declared.refusal.Cause.{Cause}
use Rattle.flow_templates.specs.Decoding.{Said}
use Rattle.pretag_map.specs.SamplingLines.{SamplingLine}
use Rattle.pretag_map.specs.SamplingLines.{rate_of as mapped_rate}
use Rattle.flow_decode.specs.declared.decoder.Decoded.{Decoded}

abbrev pub first_of : Option ℕ → ℕ → ℕ
first_of None other = other
first_of (Some rate) other = rate

-- the rate that a map gives a record, where an interface that it lacks is 0
abbrev pub rate_by : List SamplingLine → FlowRecord → Option ℕ
rate_by lines flow = mapped_rate lines flow.exporter (first_of flow.in_iface 0) (first_of flow.out_iface 0)

-- The sampling rate of a record is the first that is there: its own, the one that its exporter taught, that of the map, that of its
-- datagram's header.
abbrev pub rate_of : List SamplingLine → RawRecord → ℕ
rate_of lines raw = first_of raw.own_rate (first_of raw.learned_rate (first_of (rate_by lines raw.flow) raw.header_rate))

-- bytes and packets stand for so many of each; a flow stays one
abbrev pub times : ℕ → Counts → Counts
times rate counts = record { bytes = counts.bytes * rate; packets = counts.packets * rate; flows = counts.flows }

-- the flow of a record, with what it counts
abbrev pub counted : Bool → List SamplingLine → RawRecord → FlowRecord
counted renormalise lines raw = record raw.flow { counts = if renormalise then times (rate_of lines raw) raw.flow.counts else raw.flow.counts }

-- what is told of a datagram that says this
abbrev pub answer_of : Bool → List SamplingLine → Result Said Cause → Result Decoded Cause
answer_of renormalise lines (Ok said) = Ok (record { rows = map (counted renormalise lines) said.rows; notices = said.notices })
answer_of renormalise lines (Err cause) = Err cause
