use Rattle.sf_rfc.proofs.Utf8Codings as coding
use Rattle.sf_rfc.proofs.utf8.decoding_inverts.Goals as goal

pub returns-clause-scalars : goal.returns-clause-scalars
returns-clause-scalars c = coding.scalars_encode

pub returns-clause-inverts : goal.returns-clause-inverts
returns-clause-inverts c = coding.decoding_inverts

pub returns-clause-abnf : goal.returns-clause-abnf
returns-clause-abnf c = coding.abnf_decodes
