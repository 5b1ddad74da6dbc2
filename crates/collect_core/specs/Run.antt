-- A run on one thread.
use Rattle.std.specs.Prelude.{◌≡◌, ◌≢◌, ◌≤◌, IsTrue, List, All, Option, None, Result, Ok, Err}
use Rattle.acct_types.specs.declared.datagram.Datagram.{Datagram}
use Rattle.outside_io.specs.Calls.{Calls, EndWith, handed_out}
use Rattle.outside_io.specs.Causes.{Rose}
use Rattle.outside_io.specs.Inputs.{EndsAs, is_of_capture}
use Rattle.outside_io.specs.Spans.{HandsOut}
use Rattle.outside_io.specs.declared.ends.OutEnd.{OutEnd}
use Rattle.outside_io.specs.declared.ends.OutEnd.TheVariants as out
use Rattle.outside_io.specs.declared.ends.SideEnd.{SideEnd}
use Rattle.outside_io.specs.declared.ends.SideEnd.TheVariants.{Ended}
use Rattle.outside_io.specs.declared.input_fault.InputFault.{InputFault}
use Rattle.outside_io.specs.declared.input_fault.InputFault.TheVariants as fault
use Rattle.out_text.specs.declared.event.Totals.{Totals}
use Rattle.plugin_work.specs.Sinks.{IsWritten}
use Rattle.outside_io.specs.States.{InputState, SinkState}
use Rattle.collect_core.specs.Course.{Course}
use Rattle.collect_core.specs.declared.job.Job.{Job}
use Rattle.collect_core.specs.Most.{Most}
use Rattle.collect_core.specs.Audit.{audit_text, totals_of}
use Rattle.collect_core.specs.Due.{due, taken}
use Rattle.collect_core.specs.Ends.{Answer, EndsFlows, EndsPlugin, ForEachPlugin, PluginEnding}
use Rattle.collect_core.specs.Flows.{flows_in}

-- a run at its end: both sides, the plugins, the audit, and what was counted
pub record RunEnding : Type 0 where
  pub flow : SideEnd
  pub route : SideEnd
  pub plugins : List PluginEnding
  pub audit : OutEnd
  pub totals : Totals

-- Why an input gave no more: nothing is left where it says so, it has ended where it said so, a failed read was counted, and a fault of
-- a capture is one of a capture.
pub record HasInputEnd {T : Type 0} (before after : InputState T) (answers : List (Result (Option T) InputFault)) : Type 0 where
  pub ends : (last : Result (Option T) InputFault) → EndWith answers last → EndsAs after.left after.ending last
  pub ending : after.ending ≡ before.ending
  pub ended : EndWith answers (Ok None) → IsTrue after.ended
  pub later : before.faults ≤ after.faults
  pub failed : EndWith answers (Err fault.ReadFault) → Rose before.faults after.faults
  pub of_capture : (by_fault : InputFault) → EndWith answers (Err by_fault) → IsTrue (is_of_capture by_fault) → IsTrue before.captured

-- A run over the flow input, to these sinks of the plugins and of the audit, on this course: there are the answers of the input, one after
-- another, and all outputs are those of the datagrams that it handed out, within the limits.
pub record IsRun {F : Type 0} (job : Job) (most : Most) (course : Course) (Call : F → F → Answer → Type 0) (state : F → InputState Datagram) (before after : F)
    (starts : List SinkState) (audit_before audit_after : SinkState) (ending : RunEnding) : Type 0 where
  pub answers : List Answer
  pub calls : Calls Call before after answers
  pub hands_out : HandsOut (state before).left (state before).handed (handed_out answers) (state after).left (state after).handed
  pub cause : HasInputEnd (state before) (state after) answers
  pub flow : EndsFlows job most answers ending.flow
  pub route : ending.route ≡ Ended
  pub plugins : ForEachPlugin (λ plugin start plugin_ending. EndsPlugin plugin (taken course plugin (due job most course plugin (flows_in job most (handed_out answers)))) start plugin_ending)
      job.config.plugins starts ending.plugins
  pub plugins_in_memory : All (λ plugin_ending. plugin_ending.end ≢ out.Memory) ending.plugins
  pub audit : IsWritten (audit_text job most course (flows_in job most (handed_out answers))) ending.audit audit_before audit_after
  pub audit_in_memory : ending.audit ≢ out.Memory
  pub totals : ending.totals ≡ totals_of job most course (flows_in job most (handed_out answers))
