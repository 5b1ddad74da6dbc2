use Rattle.std.proofs.Common.{◌∙◌, [], subst}
use Rattle.outside_io.specs.Names.{Names}
use Rattle.config_keys.specs.ConfigViews.{says}
use Rattle.acct_top.specs.Reading.{IsMap, IsMapRefusal}
use Rattle.pretag_map.specs.SamplingLines.{sampling_map_of}
use Rattle.pretag_map.specs.TagRules.{tag_map_of}
use Rattle.acct_top.proofs.ReadingLemmas.{lacks_capture, read_text_says, samplings_refused, tags_refused}
use Rattle.acct_top.proofs.top.read_job.Goals as goal

-- src/top.rt:63:24
pub returns-in-Err-map_of-clause-refused : goal.returns-in-Err-map_of-clause-refused
returns-in-Err-map_of-clause-refused g c = λ told.
    let text = c.in-Ok.ensures in
    let config = c.in-Ok-read_built.config in
    let said = read_text_says c.args.tool c.args.file.now (g.P.Place.state c.args.place.now).names c.in-Ok.text c.as_slice.result.now (says config) c.as_slice.ensures (text.text told) text.short c.in-Ok-read_built.ensures.config in
    tags_refused c.in-Err-map_of.answer c.args.tool c.args.file.now (g.P.Place.state c.args.place.now).names (says config) said
    (subst (λ (n : Names). IsMapRefusal tag_map_of n config.pre_tag_map c.in-Err-map_of.answer) (text.names told) (c.in-Err-map_of.ensures.refused told))

-- src/top.rt:67:24
pub returns-in-Err-map_of-2-clause-refused : goal.returns-in-Err-map_of-2-clause-refused
returns-in-Err-map_of-2-clause-refused g c = λ told.
    let text = c.in-Ok.ensures in
    let tags = c.in-Ok-map_of.ensures in
    let config = c.in-Ok-read_built.config in
    let said = read_text_says c.args.tool c.args.file.now (g.P.Place.state c.args.place.now).names c.in-Ok.text c.as_slice.result.now (says config) c.as_slice.ensures (text.text told) text.short c.in-Ok-read_built.ensures.config in
    samplings_refused c.in-Err-map_of-2.answer c.args.tool c.args.file.now (g.P.Place.state c.args.place.now).names (says config) c.in-Ok-map_of.tags said
    (subst (λ (n : Names). IsMap tag_map_of [] n config.pre_tag_map c.in-Ok-map_of.tags) (text.names told) (tags.map told))
    (subst (λ (n : Names). IsMapRefusal sampling_map_of n config.sampling_map c.in-Err-map_of-2.answer) (tags.names told ∙ text.names told) (c.in-Err-map_of-2.ensures.refused told))

-- src/top.rt:34:1
pub returns-clause-refused : goal.returns-clause-refused
returns-clause-refused g c = λ told.
    let text = c.in-Ok.ensures in
    let tags = c.in-Ok-map_of.ensures in
    let samplings = c.in-Ok-map_of-2.ensures in
    let config = c.in-Ok-read_built.config in
    let said = read_text_says c.args.tool c.args.file.now (g.P.Place.state c.args.place.now).names c.in-Ok.text c.as_slice.result.now (says config) c.as_slice.ensures (text.text told) text.short c.in-Ok-read_built.ensures.config in
    lacks_capture c.refused-in-None.result c.args.tool c.args.file.now (g.P.Place.state c.args.place.now).names (says config) c.in-Ok-map_of.tags c.in-Ok-map_of-2.samplings said
    (subst (λ (n : Names). IsMap tag_map_of [] n config.pre_tag_map c.in-Ok-map_of.tags) (text.names told) (tags.map told))
    (subst (λ (n : Names). IsMap sampling_map_of [] n config.sampling_map c.in-Ok-map_of-2.samplings) (tags.names told ∙ text.names told) (samplings.map told))
    c.in-None.ensures.none c.refused-in-None.ensures
