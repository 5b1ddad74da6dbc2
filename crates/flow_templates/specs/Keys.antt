-- What a template is found by, and what a learned rate is found by.
use Rattle.std.specs.Prelude.{ℕ, Option}
use Rattle.flow_templates.specs.declared.rate.RateKey.{RateKey}
use Rattle.flow_templates.specs.declared.template.Domain.{Domain}
use Rattle.flow_templates.specs.declared.template.TemplateKey.{TemplateKey}

abbrev pub key_of : Domain → ℕ → TemplateKey
key_of domain id = record { domain = domain; id = id }

abbrev pub rate_key_of : Domain → Option ℕ → RateKey
rate_key_of domain sampler = record { domain = domain; sampler = sampler }
