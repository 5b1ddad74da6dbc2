-- What the inputs over a capture tell, where their source tells its octets.
use Rattle.std.specs.Prelude.{Bool, List, Option, Result}
use Rattle.acct_types.specs.declared.datagram.Datagram.{Datagram}
use Rattle.outside_io.specs.States.{SourceState, InputState}
use Rattle.outside_io.specs.declared.input_fault.InputFault.{InputFault}
use Rattle.acct_types.specs.declared.route_event.RouteEvent.{RouteEvent}
use Rattle.capture_file.specs.declared.inputs.CaptureFlows.{CaptureFlows}
use Rattle.capture_file.specs.declared.inputs.CaptureRoutes.{CaptureRoutes}
use Rattle.capture_file.specs.declared.reader.CaptureReader.{CaptureReader}
use Rattle.capture_file.specs.Event.{datagram_at, route_event_at}
use Rattle.capture_file.specs.Reader.{progress_of, source_of, told_of, ending_of, says_end, input_state, IsInputCall}

abbrev pub flows_reader : {S : Type 0} → CaptureFlows S → CaptureReader S
flows_reader flows = flows.reader

-- the datagrams that it has yet to hand out, of the octets that its source has left
abbrev pub flows_left : {S : Type 0} → (S → SourceState) → CaptureFlows S → Option (List Datagram)
flows_left state flows = told_of datagram_at (state (source_of flows.reader)).left flows.reader

-- the fault that ends them, None where they simply end
abbrev pub flows_ending : {S : Type 0} → (S → SourceState) → CaptureFlows S → Option InputFault
flows_ending state flows = ending_of (state (source_of flows.reader)).left flows.reader

-- it answered that the capture ends
abbrev pub flows_ended : {S : Type 0} → CaptureFlows S → Bool
flows_ended flows = says_end (progress_of flows.reader)

abbrev pub flows_state : {S : Type 0} → (S → SourceState) → CaptureFlows S → InputState Datagram
flows_state state flows = input_state datagram_at state flows.reader

-- one call: the datagrams that it hands out, and the octets that it takes of its source
abbrev pub flows_call : {S : Type 0} → (S → SourceState) → CaptureFlows S → CaptureFlows S → Result (Option Datagram) InputFault → Type 0
flows_call state before after result = IsInputCall datagram_at state before.reader after.reader result

abbrev pub routes_reader : {S : Type 0} → CaptureRoutes S → CaptureReader S
routes_reader routes = routes.reader

abbrev pub routes_left : {S : Type 0} → (S → SourceState) → CaptureRoutes S → Option (List RouteEvent)
routes_left state routes = told_of route_event_at (state (source_of routes.reader)).left routes.reader

abbrev pub routes_ending : {S : Type 0} → (S → SourceState) → CaptureRoutes S → Option InputFault
routes_ending state routes = ending_of (state (source_of routes.reader)).left routes.reader

abbrev pub routes_ended : {S : Type 0} → CaptureRoutes S → Bool
routes_ended routes = says_end (progress_of routes.reader)

abbrev pub routes_state : {S : Type 0} → (S → SourceState) → CaptureRoutes S → InputState RouteEvent
routes_state state routes = input_state route_event_at state routes.reader

abbrev pub routes_call : {S : Type 0} → (S → SourceState) → CaptureRoutes S → CaptureRoutes S → Result (Option RouteEvent) InputFault → Type 0
routes_call state before after result = IsInputCall route_event_at state before.reader after.reader result
